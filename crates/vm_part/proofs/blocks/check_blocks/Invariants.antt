use Rattle.std.proofs.Common.{ℕ, List, drop}
use Rattle.vm_part.specs.Broken.{SomeBreaks}
use Rattle.vm_part.specs.Part.{Block}
use Rattle.vm_part.specs.inner.Reading.{AllStand, HasAllBlocks, PlacesRise}
use Rattle.vm_part.proofs.blocks.check_blocks.Given as goal

-- what holds of the series that are left holds of all
abbrev pub invariant-series : goal.invariant-series
invariant-series l = record {
  rise : PlacesRise l.entries_at (drop l.place l.entries);
  breaks : (at : ℕ) → SomeBreaks l.bytes l.entries_at (drop l.place l.entries) at
      → SomeBreaks l.bytes l.entries_at l.entries at;
  stands : (others : List (List Block))
      → AllStand l.bytes l.entries_at (drop l.place l.entries) others
      → HasAllBlocks l.bytes l.entries_at l.entries;
}
