use Rattle.std.proofs.Common.{◌++◌, codes, decimal, append_assoc, sym, ap, ◌∙◌}
use Rattle.vm_top.specs.Statuses.{text_of}
use Rattle.vm_top.proofs.note.put_text.Goals as goal

pub returns-in-BadLine-clause-text : goal.returns-in-BadLine-clause-text
returns-in-BadLine-clause-text c =
    let before = c.args.note.now.items in
    let number = c.in-BadLine.line in
    c.put_number.ensures.text
    ∙ ap (λ text. text ++ decimal number) c.put-in-BadLine.ensures
    ∙ append_assoc before (codes "bad script line ") (decimal number)
    ∙ ap (λ fault. before ++ text_of fault) (sym c.in-BadLine.is)

pub returns-in-Output-clause-text : goal.returns-in-Output-clause-text
returns-in-Output-clause-text c =
    c.put-in-Output.ensures
    ∙ ap (λ fault. c.args.note.now.items ++ text_of fault) (sym c.in-Output.is)
