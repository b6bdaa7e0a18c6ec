-- A part file: the series that it holds, and its bytes.
use Rattle.std.specs.Prelude.{◌≡◌, ℕ, ◌+◌, ◌^◌, ◌<◌, ◌≤◌, List, [], ◌∷◌, ◌++◌, length, map, flat_map, codes, Option, Some, None}
use Rattle.std.specs.Int.{w64, to_be_bytes}
use Rattle.std.specs.List.{AllByRecursion}
use Rattle.vm_base.specs.Sorted.{IsUp, last_of}
use Rattle.vm_base.specs.Stamped.{is_in_order}
use Rattle.vm_base.specs.declared.stamped.Stamped.{Stamped}
use Rattle.vm_block.specs.Block.{IsBlock}
use Rattle.vm_block.specs.Header.{header_bytes}
use Rattle.vm_block.specs.declared.header.BlockHeader.{BlockHeader}
use Rattle.vm_index.specs.Bytes.{postings_bytes, table_bytes}
use Rattle.vm_index.specs.Index.{AreSets, postings_of}
use Rattle.vm_labels.specs.declared.pair.Pair.{Pair}
use Rattle.vm_part.specs.declared.entry.Entry.{Entry}

-- ---- what a part holds

-- a block as it stands in a file, and the samples that it says
pub record Block : Type 0 where
  pub header : BlockHeader
  pub body : List ℕ
  pub samples : List Stamped

-- a label set, and its blocks one after the other
pub record Stored : Type 0 where
  pub labels : List Pair
  pub blocks : List Block

-- the header and the body of a block say its samples
abbrev pub SaysSamples : Block → Type 0
SaysSamples b = IsBlock b.header b.body b.samples

-- the samples of blocks
abbrev pub samples_in : List Block → List Stamped
samples_in blocks = flat_map (λ b. b.samples) blocks

-- the samples of a series
abbrev pub samples_of : Stored → List Stamped
samples_of s = samples_in s.blocks

-- the label sets of series
abbrev pub sets_of : List Stored → List (List Pair)
sets_of all = map (λ s. s.labels) all

-- each block says its samples, and they stand in order over all blocks
pub record IsStored (s : Stored) : Type 0 where
  pub blocks : AllByRecursion SaysSamples s.blocks
  pub order : IsUp is_in_order (samples_of s)

-- a part holds some series, in label order
pub record AreStored (all : List Stored) : Type 0 where
  pub some : 1 ≤ length all
  pub sets : AreSets (sets_of all)
  pub each : AllByRecursion IsStored all

-- ---- its bytes

abbrev pub block_bytes : Block → List ℕ
block_bytes b = header_bytes b.header ++ b.body

abbrev pub blocks_bytes : List Block → List ℕ
blocks_bytes blocks = flat_map block_bytes blocks

abbrev pub series_bytes : Stored → List ℕ
series_bytes s = blocks_bytes s.blocks

-- the time of a sample, 0 where there is none
abbrev pub time_of : Option Stamped → ℕ
time_of None = 0
time_of (Some sample) = sample.time

abbrev pub first_of : List Stamped → Option Stamped
first_of [] = None
first_of (sample ∷ more) = Some sample

-- what is said of a series whose blocks stand from a place of the file on
abbrev pub entry_of : ℕ → Stored → Entry
entry_of start s = record {
  start = start;
  blocks = length s.blocks;
  rows = length (samples_of s);
  first_time = time_of (first_of (samples_of s));
  last_time = time_of (last_of (samples_of s));
}

-- the same of each of these, whose blocks stand one after the other
abbrev pub entries_from : ℕ → List Stored → List Entry
entries_from start [] = []
entries_from start (s ∷ more) =
    entry_of start s ∷ entries_from (start + length (blocks_bytes s.blocks)) more

-- the blocks begin behind the front's 8 bytes
abbrev pub entries_of : List Stored → List Entry
entries_of all = entries_from 8 all

abbrev pub entry_bytes : Entry → List ℕ
entry_bytes e =
    flat_map (to_be_bytes w64) (e.start ∷ e.blocks ∷ e.rows ∷ e.first_time ∷ e.last_time ∷ [])

-- the words at both ends of a file
abbrev pub front_mark : List ℕ
front_mark = codes "VMDPART1"

abbrev pub end_mark : List ℕ
end_mark = codes "VMDPEND1"

-- The sections of a part before its footer.
abbrev pub front : List Stored → List ℕ
front all = front_mark ++ flat_map series_bytes all

abbrev pub entries : List Stored → List ℕ
entries all = flat_map entry_bytes (entries_of all)

abbrev pub table : List Stored → List ℕ
table all = table_bytes (sets_of all)

abbrev pub postings : List Stored → List ℕ
postings all = postings_bytes (postings_of (sets_of all))

-- The places of the sections, how many series there are and how many rows, and the word at the end.
abbrev pub footer : List Stored → List ℕ
footer all =
    let entries_at = length (front all) in
    let table_at = entries_at + length (entries all) in
    let postings_at = table_at + length (table all) in
    flat_map (to_be_bytes w64)
    (entries_at ∷ table_at ∷ postings_at ∷ length all ∷ length (flat_map samples_of all) ∷ [])
    ++ end_mark

-- the bytes of a part that holds these series
unfoldable pub image : List Stored → List ℕ
image all = front all ++ entries all ++ table all ++ postings all ++ footer all

-- The grammar: the bytes are a part that holds these series. All its places and counts are numbers
-- of eight bytes.
pub record IsPart (bytes : List ℕ) (all : List Stored) : Type 0 where
  pub stored : AreStored all
  pub spelled : bytes ≡ image all
  pub long : length bytes < 2 ^ 64
  pub rows : length (flat_map samples_of all) < 2 ^ 64
