use Rattle.std.proofs.Common.{◌≡◌, true, None, sym, ◌∙◌}
use Rattle.std.specs.Option.{is_some}
use Rattle.vm_machine.specs.Machine.{run_of}
use Rattle.vm_top.specs.Replay.{question_of}
use Rattle.vm_top.proofs.ActLaws.{asks_taken, asks_without_memory, none_there}
use Rattle.vm_top.proofs.act.begin_query.Goals as goal

pub returns-then-is_open-clause-answers : goal.returns-then-is_open-clause-answers
returns-then-is_open-clause-answers c = λ text is.
    let machine = c.args.machine.now in
    let some : is_some (run_of c.args.run machine.runs) ≡ true = sym c.is_open.ensures
    ∙ c.if-is_open.true in
    asks_taken machine c.args.run (question_of c.args.time c.args.expression.now) text some is

pub returns-in-Err-clause-answers : goal.returns-in-Err-clause-answers
returns-in-Err-clause-answers c = λ text is.
    let machine = c.args.machine.now in
    let free : run_of c.args.run machine.runs ≡ None =
    none_there (run_of c.args.run machine.runs) (sym c.is_open.ensures ∙ c.if-is_open.false) in
    asks_without_memory machine c.args.run (question_of c.args.time c.args.expression.now) text free
    is
