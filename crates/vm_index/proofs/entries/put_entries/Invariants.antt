use Rattle.std.proofs.Common.{◌≡◌, ◌++◌, map, take}
use Rattle.vm_index.specs.inner.Entries.{seen}
use Rattle.vm_index.proofs.entries.put_entries.Given as goal

abbrev pub invariant-loop-pair : goal.invariant-loop-pair
invariant-loop-pair l = map seen l.entries.items ≡ map seen l.initial.entries.items
    ++ map (λ p. (p, l.ordinal)) (take l.pair-index l.pairs)
