-- What a part in memory keeps, and what it was made of.
use Rattle.std.specs.Prelude.{◌≡◌, ℕ, ◌^◌, ◌<◌, ◌≤◌, List, [], ◌∷◌, length, map, flat_map, None}
use Rattle.std.specs.List.{AllByRecursion}
use Rattle.vm_base.specs.declared.stamped.Stamped.{Stamped}
use Rattle.vm_block.specs.Cut.{IsCut}
use Rattle.vm_block.specs.Written.{IsWritten}
use Rattle.vm_index.specs.Index.{KeepLimits}
use Rattle.vm_labels.specs.Labels.{limit_of}
use Rattle.vm_labels.specs.declared.pair.Pair.{Pair}
use Rattle.vm_labels.specs.declared.row.Row.{Row}
use Rattle.vm_series.specs.Series.{AreSeries, row_of, series_of}
use Rattle.vm_series.specs.declared.series.Series.{Series}
use Rattle.vm_part.specs.Part.{Block, IsPart, Stored, block_bytes, entries_of, samples_of, sets_of}
use Rattle.vm_part.specs.declared.entry.Entry.{Entry}

-- ---- what is kept

-- the bytes of a file, and what was read of them: the label sets and the entries of its series, and
-- how many rows there are
pub record Kept : Type 0 where
  pub bytes : List ℕ
  pub sets : List (List Pair)
  pub entries : List Entry
  pub rows : ℕ

-- the bytes are a part that holds these series, and the rest is theirs
pub record SaysAll (part : Kept) (all : List Stored) : Type 0 where
  pub bytes : IsPart part.bytes all
  pub sets : part.sets ≡ sets_of all
  pub entries : part.entries ≡ entries_of all
  pub rows : part.rows ≡ length (flat_map samples_of all)

-- they are those of some series with P
pub record Says (part : Kept) (P : List Stored → Type 0) : Type 0 where
  pub all : List Stored
  pub said : SaysAll part all
  pub that : P all

-- ---- what a part is made of

-- a row that may stand in a part
pub record IsRow (row : Row) : Type 0 where
  pub labels : limit_of row.labels ≡ None
  pub time : row.time < 2 ^ 48

-- each sample is at a time in its range
abbrev pub InTime : Series → Type 0
InTime series = AllByRecursion (λ sample. sample.time < 2 ^ 48) series.samples

-- series that a part can hold: some, in label order, with samples in order, within the limits of an
-- import
pub record CanBeStored (series : List Series) : Type 0 where
  pub some : 1 ≤ length series
  pub are : AreSeries series
  pub limits : KeepLimits (map (λ s. s.labels) series)
  pub times : AllByRecursion InTime series

-- ---- as it is written

-- these blocks are the samples, cut as late as can be, and each is written in the one way
pub record AreBlocks (samples : List Stamped) (blocks : List Block) : Type 0 where
  pub cut : IsCut samples (map (λ b. b.samples) blocks)
  pub written : AllByRecursion (λ b. IsWritten (block_bytes b) b.samples) blocks

-- the same series, one by one
pub data AreCutUp : List Series → List Stored → Type 0 where
  none : AreCutUp [] []
  next : (series : List Series) (all : List Stored) (s : Series) (t : Stored) → t.labels ≡ s.labels
      → AreBlocks s.samples t.blocks
      → AreCutUp series all → AreCutUp (s ∷ series) (t ∷ all)

-- a part that was made of these series
abbrev pub IsMadeOf : List Series → Kept → Type 0
IsMadeOf series part = Says part (AreCutUp series)

-- ---- its rows

-- the samples of a series as rows
abbrev pub rows_of : Stored → List Row
rows_of s = map (row_of s.labels) (samples_of s)

-- the rows of a part
abbrev pub rows_in : List Stored → List Row
rows_in all = flat_map rows_of all

-- each of these parts holds the series beside it
pub data Hold : List Kept → List (List Stored) → Type 0 where
  none : Hold [] []
  next : (parts : List Kept) (alls : List (List Stored)) (part : Kept) (all : List Stored)
      → IsPart part.bytes all
      → Hold parts alls → Hold (part ∷ parts) (all ∷ alls)

-- a part that was made of the rows of other parts, thinned at an interval
pub record IsMergedOf (d : ℕ) (parts : List Kept) (part : Kept) : Type 0 where
  pub alls : List (List Stored)
  pub hold : Hold parts alls
  pub made : IsMadeOf (series_of d (flat_map rows_in alls)) part
