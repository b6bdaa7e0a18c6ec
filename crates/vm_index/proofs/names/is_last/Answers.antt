use Rattle.std.proofs.Common.{sym, ◌∙◌}
use Rattle.vm_index.proofs.NameLaws.{is_last_some}
use Rattle.vm_index.proofs.names.is_last.Goals as goal

pub returns-in-Some : goal.returns-in-Some
returns-in-Some c = c.eq.ensures
    ∙ sym (is_last_some c.args.names.now c.args.name.now c.in-Some.last.now
    (sym c.in-Some.ensures.value))
