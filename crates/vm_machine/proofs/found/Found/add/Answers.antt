use Rattle.std.proofs.Common.{sym, ◌∙◌, subst}
use Rattle.vm_machine.specs.inner.Put.{IsPut}
use Rattle.vm_machine.proofs.FoundLaws.{found-put, found-skipped}
use Rattle.vm_machine.proofs.found.Found.add.Goals as goal

pub returns-in_ok-put-clause-added : goal.returns-in_ok-put-clause-added
returns-in_ok-put-clause-added c = λ rows is.
    let put =
    subst (λ here. IsPut c.args.self.now c.args.row.now.labels here c.put.new.self)
    c.sample_within.ensures c.in_ok-put.ensures.put in
    found-put c.args.question.now rows c.args.row.now c.args.self.now c.put.new.self is
    (sym c.is_selected.ensures ∙ c.if-is_selected.true) put c.put.ensures.rises

pub returns-else-is_selected-clause-added : goal.returns-else-is_selected-clause-added
returns-else-is_selected-clause-added c = λ rows is.
    is ∙ sym
    (found-skipped c.args.question.now rows c.args.row.now
    (sym c.is_selected.ensures ∙ c.if-is_selected.false))
