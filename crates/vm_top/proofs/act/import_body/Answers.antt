use Rattle.std.proofs.Common.{length, ap, ◌∙◌, sym}
use Rattle.vm_machine.specs.Batches.{row_count}
use Rattle.vm_top.specs.Printed.{accepted_line}
use Rattle.vm_top.proofs.ActLaws.{imported, refused_body}
use Rattle.vm_top.proofs.act.import_body.Goals as goal

pub returns-in-Ok-clause-answers : goal.returns-in-Ok-clause-answers
returns-in-Ok-clause-answers c = λ passed gathers text prints.
    let rows = c.rows-rows.result in
    let skipped = c.skipped-skipped.result in
    let all = c.in_ok-all.all in
    imported c.args.body passed c.args.machine.now c.import_all.new.machine all text gathers
    c.in_ok-all.ensures c.in-Ok.ensures.all
    (prints ∙ ap (λ n. accepted_line n rows skipped) c.len-batches.ensures
    ∙ ap (λ n. accepted_line (length all) n skipped)
    (c.rows-rows.ensures ∙ ap row_count (sym c.in_ok-all.ensures))
    ∙ ap (accepted_line (length all) (row_count all)) c.skipped-skipped.ensures)

pub returns-in-Err-clause-answers : goal.returns-in-Err-clause-answers
returns-in-Err-clause-answers c = λ passed gathers text prints.
    refused_body c.args.body passed c.args.machine.now c.import_all.new.machine c.in_ok-all.all
    c.in-Err.why text
    gathers c.in_ok-all.ensures c.in-Err.ensures.refused prints
