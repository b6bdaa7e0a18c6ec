use Rattle.std.proofs.Common.{◌≡◌, drop}
use Rattle.vm_labels.specs.Labels.{value_of}
use Rattle.vm_labels.proofs.labels.Labels.get.Given as goal

abbrev pub invariant-loop-pair : goal.invariant-loop-pair
invariant-loop-pair l = value_of l.name (drop l.pair-index l.self) ≡ value_of l.name l.self
