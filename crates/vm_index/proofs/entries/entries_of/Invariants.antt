use Rattle.std.proofs.Common.{◌≡◌, ◌++◌, map, take, drop}
use Rattle.std.specs.List.{AllByRecursion}
use Rattle.vm_labels.specs.Labels.{IsLabels}
use Rattle.vm_index.specs.inner.Entries.{entries_from, seen}
use Rattle.vm_index.proofs.entries.entries_of.Given as goal

abbrev pub invariant-loop-at : goal.invariant-loop-at
invariant-loop-at l =
    (map seen l.entries.items ++ entries_from l.at (drop l.at l.sets) ≡ entries_from 0 l.sets)
    × AllByRecursion IsLabels (take l.at l.sets)
