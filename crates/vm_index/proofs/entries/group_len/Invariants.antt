use Rattle.std.proofs.Common.{◌≡◌, ◌+◌, drop}
use Rattle.std.specs.List.{prefix_len}
use Rattle.vm_labels.specs.Labels.{pair_eq}
use Rattle.vm_index.specs.inner.Entries.{seen}
use Rattle.vm_index.proofs.entries.group_len.Given as goal

abbrev pub invariant-loop-entry : goal.invariant-loop-entry
invariant-loop-entry l = (l.len ≡ l.entry-index)
    × (prefix_len (λ e. pair_eq (seen e).0 l.pair) l.entries ≡ l.len
    + prefix_len (λ e. pair_eq (seen e).0 l.pair) (drop l.entry-index l.entries))
