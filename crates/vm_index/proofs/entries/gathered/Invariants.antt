use Rattle.std.proofs.Common.{◌≡◌, ◌≤◌, ◌-◌, ◌++◌, map, length, drop}
use Rattle.vm_index.specs.inner.Entries.{gathered, seen}
use Rattle.vm_index.proofs.entries.gathered.Given as goal

abbrev pub invariant-loop-at : goal.invariant-loop-at
invariant-loop-at l =
    (l.postings.items ++ gathered (map seen (drop l.at l.entries)) ≡ gathered (map seen l.entries))
    × (l.at ≤ length l.entries)

abbrev pub decreases-loop-at : goal.decreases-loop-at
decreases-loop-at l = length l.entries - l.at
