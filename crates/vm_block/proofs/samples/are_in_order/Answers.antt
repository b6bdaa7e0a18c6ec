-- Neighbours in order are all in order.
use Rattle.std.proofs.Common.{sym, subst, ◌∙◌}
use Rattle.vm_base.specs.Sorted.{IsUp}
use Rattle.vm_base.specs.Stamped.{is_in_order}
use Rattle.vm_block.proofs.Orders.{up_from_neighbours, neighbours_from_up}
use Rattle.vm_block.proofs.samples.are_in_order.Goals as goal

pub returns-in-Some : goal.returns-in-Some
returns-in-Some c =
    let parts = c.in-Some.ensures.cases.0 in (
      λ yes. subst (IsUp is_in_order) (sym parts)
          (up_from_neighbours c.in-Some.first.now c.in-Some.more.now
          (sym c.never_falls.ensures ∙ yes)),
      λ up. c.never_falls.ensures
          ∙ neighbours_from_up c.in-Some.first.now c.in-Some.more.now
          (subst (IsUp is_in_order) parts up),
    )
