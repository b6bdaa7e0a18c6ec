use Rattle.std.proofs.Common.{◌≡◌, take, filter}
use Rattle.vm_labels.specs.Labels.{keeps}
use Rattle.vm_labels.proofs.change.kept.Given as goal

abbrev pub invariant-loop-pair : goal.invariant-loop-pair
invariant-loop-pair l = l.copies.items ≡ filter (keeps l.among l.names) (take l.pair-index l.pairs)
