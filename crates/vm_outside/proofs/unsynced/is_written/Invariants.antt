use Rattle.std.proofs.Common.{◌≡◌, drop}
use Rattle.vm_outside.specs.Unsynced.{is_in}
use Rattle.vm_outside.proofs.unsynced.is_written.Given as goal

abbrev pub invariant-loop-range : goal.invariant-loop-range
invariant-loop-range l = is_in (drop l.range-index l.ranges) l.place ≡ is_in l.fn.ranges l.fn.place
