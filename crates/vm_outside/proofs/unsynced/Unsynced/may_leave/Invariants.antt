use Rattle.std.proofs.Common.{◌≡◌, ◌<◌, ℕ, false}
use Rattle.std.specs.Prelude.{slice_get}
use Rattle.vm_outside.specs.Unsynced.{is_in}
use Rattle.vm_outside.proofs.unsynced.Unsynced.may_leave.Given as goal

abbrev pub invariant-loop-at : goal.invariant-loop-at
invariant-loop-at l = (i : ℕ) → i < l.at → is_in l.fn.self.ranges i ≡ false
    → slice_get l.fn.bytes i ≡ slice_get l.fn.self.synced i
