use Rattle.std.proofs.Common.{◌≡◌, ◌+◌, drop}
use Rattle.std.specs.List.{prefix_len}
use Rattle.vm_labels.specs.Labels.{label_eq}
use Rattle.vm_series.proofs.groups.group_len.Given as goal

abbrev pub invariant-loop-piece : goal.invariant-loop-piece
invariant-loop-piece l = (l.len ≡ l.piece-index)
    × (prefix_len (λ p. label_eq p.labels.now l.labels) l.pieces ≡ l.len
    + prefix_len (λ p. label_eq p.labels.now l.labels) (drop l.piece-index l.pieces))
