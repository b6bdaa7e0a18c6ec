use Rattle.std.proofs.Common.{◌≡◌, take}
use Rattle.vm_match.proofs.copy.copy_of_selector.Given as goal

abbrev pub invariant-loop-filters : goal.invariant-loop-filters
invariant-loop-filters l = l.copies.items ≡ take l.filters-index l.lists
