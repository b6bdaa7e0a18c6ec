use Rattle.std.proofs.Common.{◌≡◌}
use Rattle.vm_machine.specs.Found.{values_of}
use Rattle.vm_machine.proofs.found.Found.into_values.Given as goal

abbrev pub invariant-loop-labels : goal.invariant-loop-labels
invariant-loop-labels l = l.values ≡ values_of l.yielded
