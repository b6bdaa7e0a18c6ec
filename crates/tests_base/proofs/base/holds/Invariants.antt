use Rattle.std.proofs.Common.{◌≡◌, ◌+◌}
use Rattle.tests_base.proofs.base.holds.Given as goal

abbrev pub invariant-loop-number : goal.invariant-loop-number
invariant-loop-number g l = l.steps ≡ l.initial.steps + l.number-index
