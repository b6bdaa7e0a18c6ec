use Rattle.std.proofs.Common.{◌≡◌, ◌++◌}
use Rattle.vm_machine.proofs.batches.joined.Given as goal

abbrev pub invariant-loop-row : goal.invariant-loop-row
invariant-loop-row l = l.all ≡ l.fn.held ++ l.yielded
