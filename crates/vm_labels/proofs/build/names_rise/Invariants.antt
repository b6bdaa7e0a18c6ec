use Rattle.std.proofs.Common.{◌≡◌, ◌-◌, ◌≤◌, drop}
use Rattle.vm_labels.specs.Labels.{names_rise}
use Rattle.vm_labels.proofs.build.names_rise.Given as goal

abbrev pub invariant-loop-at : goal.invariant-loop-at
invariant-loop-at l = (1 ≤ l.at) × (names_rise (drop (l.at - 1) l.pairs) ≡ names_rise l.pairs)
