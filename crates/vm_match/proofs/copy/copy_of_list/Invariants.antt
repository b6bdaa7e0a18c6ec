use Rattle.std.proofs.Common.{◌≡◌, take}
use Rattle.vm_match.proofs.copy.copy_of_list.Given as goal

abbrev pub invariant-loop-filter : goal.invariant-loop-filter
invariant-loop-filter l = l.copies.items ≡ take l.filter-index l.filters
