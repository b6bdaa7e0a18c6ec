-- What a reader of a part finds, section by section. Only private functions cite it.
use Rattle.std.specs.Prelude.{◌≡◌, ◌⊎◌, ℕ, suc, ◌+◌, ◌-◌, ◌*◌, ◌%◌, ◌<◌, ◌≤◌, ◌==◌, ◌&&◌, ◌||◌, nat_le, nat_lt, not, Bool, true, List, [], ◌∷◌, ◌++◌, length, take, bytes_eq, Some, None, if◌then◌else◌, ⊤}
use Rattle.vm_base.specs.Sorted.{last_of}
use Rattle.vm_block.specs.Block.{BreaksAt}
use Rattle.vm_block.specs.Header.{IsHeader, field, field_rules, first_broken, header_bytes}
use Rattle.vm_block.specs.declared.header.BlockHeader.{BlockHeader}
use Rattle.vm_part.specs.Broken.{BreaksBehind, SeriesBreaks, SeriesStands, SomeBreaks, end_of, entries_rules, first_sample, footer_rules, is_whole, may_follow, number_at, postings_in, table_in}
use Rattle.vm_index.specs.Reading.{IsRefused}
use Rattle.vm_index.specs.declared.fault.IndexFault.TheVariants.{BrokenTable, BrokenPostings}
use Rattle.vm_part.specs.Part.{Block, SaysSamples, block_bytes, end_mark, front_mark, samples_in}
use Rattle.vm_part.specs.declared.blocks.Seen.{Seen}
use Rattle.vm_part.specs.declared.entry.Entry.{Entry}
use Rattle.vm_part.specs.declared.fault.ReadFault.{ReadFault}
use Rattle.vm_part.specs.declared.fault.ReadFault.TheVariants.{Broken, Memory}
use Rattle.vm_part.specs.declared.footer.Footer.{Footer}

-- ---- the front and the footer

-- the rules of the front and of the footer
abbrev pub front_rules : ℕ → List ℕ → List (ℕ × Bool)
front_rules at bytes =
    (0, is_whole 0 bytes && bytes_eq (take 8 bytes) front_mark) ∷ footer_rules at bytes

-- the rules of the footer at a place, one by one
abbrev pub is_entries_place : ℕ → List ℕ → Bool
is_entries_place at bytes =
    is_whole at bytes && nat_le 8 (number_at at bytes) && nat_le (number_at at bytes) at

abbrev pub is_table_place : ℕ → List ℕ → Bool
is_table_place at bytes =
    is_whole (at + 8) bytes && nat_lt (number_at at bytes) (number_at (at + 8) bytes)
    && (number_at (at + 8) bytes - number_at at bytes) % 40 == 0
    && nat_le (number_at (at + 8) bytes) at

abbrev pub is_postings_place : ℕ → List ℕ → Bool
is_postings_place at bytes =
    is_whole (at + 16) bytes && nat_le (number_at (at + 8) bytes) (number_at (at + 16) bytes)
    && nat_le (number_at (at + 16) bytes) at

abbrev pub is_series_count : ℕ → List ℕ → Bool
is_series_count at bytes =
    is_whole (at + 24) bytes && number_at (at + 24) bytes * 40 == number_at (at + 8) bytes
    - number_at at bytes

-- a mark stands at a place
abbrev pub has_mark : ℕ → List ℕ → List ℕ → Bool
has_mark at bytes mark = is_whole at bytes && bytes_eq (field 8 at bytes) mark

-- the sections of a file stand one behind the other, up to a footer at this place
pub record AreSections (at : ℕ) (bytes : List ℕ) (f : Footer) : Type 0 where
  pub whole : at + 48 ≤ length bytes
  pub front : take 8 bytes ≡ front_mark
  pub low : 8 ≤ f.entries_at
  pub some : 1 ≤ f.series
  pub entries : f.entries_at + 40 * f.series ≡ f.table_at
  pub table : f.table_at ≤ f.postings_at
  pub postings : f.postings_at ≤ at
  pub mark : field 8 (at + 40) bytes ≡ end_mark

-- ---- the entries

-- the rules of all entries
abbrev pub entries_section_rules : Footer → List ℕ → List (ℕ × Bool)
entries_section_rules f bytes = entries_rules f.entries_at bytes f.rows f.series f.entries_at None 0

-- why fields are refused: nothing is said of want of memory
abbrev pub IsFaultOf : List (ℕ × Bool) → ReadFault → Type 0
IsFaultOf rules (Broken at) = first_broken rules ≡ Some at
IsFaultOf rules Memory = ⊤

-- the places where the blocks of series begin and end don't fall
abbrev pub PlacesRise : (entries : ℕ) → List Entry → Type 0
PlacesRise entries [] = ⊤
PlacesRise entries (e ∷ more) = (e.start ≤ end_of entries more) × (end_of entries more ≤ entries)
    × PlacesRise entries more

-- ---- the index

-- why the label table with its postings is refused, where the footer stands at this place
abbrev pub IsIndexFault : (at : ℕ) → Footer → List ℕ → ReadFault → Type 0
IsIndexFault at f bytes Memory = ⊤
IsIndexFault at f bytes (Broken place) =
    ((n : ℕ) × (place ≡ f.table_at + n)
    × IsRefused f.series (table_in f bytes) (postings_in at f bytes) (BrokenTable n))
    ⊎ ((n : ℕ) × (place ≡ f.postings_at + n)
    × IsRefused f.series (table_in f bytes) (postings_in at f bytes) (BrokenPostings n))

-- ---- blocks

-- what was seen of some blocks
pub record Saw (before : List Block) (seen : Seen) : Type 0 where
  pub blocks : length before ≡ seen.blocks
  pub rows : length (samples_in before) ≡ seen.rows
  pub last : last_of (samples_in before) ≡ seen.last

-- whether a block with this header may stand behind those that were seen
abbrev pub may_come : (room : ℕ) → Entry → Seen → BlockHeader → Bool
may_come room e seen h =
    let len = 40 + h.times_len + h.values_len in
    let is_last = suc seen.blocks == e.blocks in
    let rows = seen.rows + h.count in
    (if is_last then len == room else nat_le len room)
    && may_follow seen.last (first_sample h)
    && (if is_last then rows == e.rows else nat_le rows e.rows)
    && (nat_lt 0 seen.blocks || h.first_time == e.first_time)
    && (not is_last || h.last_time == e.last_time)

-- a header stands in front of these bytes, and keeps its rules
pub record HasHeader (rest : List ℕ) (h : BlockHeader) : Type 0 where
  pub whole : 40 ≤ length rest
  pub keeps : IsHeader h
  pub spelled : take 40 rest ≡ header_bytes h

-- no header stands there, or one that breaks its rules
abbrev pub NoHeader : List ℕ → ℕ → Type 0
NoHeader rest at = ((length rest < 40) × (at ≡ 0))
    ⊎ ((40 ≤ length rest) × (first_broken (field_rules (take 40 rest)) ≡ Some at))

-- why a body is refused
abbrev pub IsBodyFault : BlockHeader → List ℕ → ReadFault → Type 0
IsBodyFault h body (Broken at) = BreaksAt h body at
IsBodyFault h body Memory = ⊤

-- one block more of so many bytes
pub record Joins (room : ℕ) (e : Entry) (rest : List ℕ) (old new : Seen) (len : ℕ) : Type 0 where
  pub block : Block
  pub is : SaysSamples block
  pub may : may_come room e old block.header ≡ true
  pub spelled : take len rest ≡ block_bytes block
  pub long : len ≡ length (block_bytes block)
  pub fits : len ≤ room
  pub seen : (before : List Block) → Saw before old → Saw (before ++ block ∷ []) new

-- why no block joins those that were seen
abbrev pub IsBlockFault : (room : ℕ) → Entry → Seen → (rest : List ℕ) → ReadFault → Type 0
IsBlockFault room e seen rest (Broken at) = (at ≤ length rest)
    × ((before : List Block) → Saw before seen → BreaksBehind room e before rest at)
IsBlockFault room e seen rest Memory = ⊤

-- all blocks of a series stand there
pub record HasSeries (bytes : List ℕ) (end : ℕ) (e : Entry) : Type 0 where
  pub blocks : List Block
  pub stand : SeriesStands bytes end e blocks

-- why the blocks of a series are refused
abbrev pub IsSeriesFault : List ℕ → (entries end : ℕ) → Entry → ReadFault → Type 0
IsSeriesFault bytes entries end e (Broken at) = SeriesBreaks bytes entries end e at
IsSeriesFault bytes entries end e Memory = ⊤

-- the blocks of all series stand there
pub data AllStand (bytes : List ℕ) (entries : ℕ) : List Entry → List (List Block) → Type 0 where
  none : AllStand bytes entries [] []
  next : (e : Entry) (more : List Entry) (blocks : List Block) (others : List (List Block))
      → SeriesStands bytes (end_of entries more) e blocks → AllStand bytes entries more others
      → AllStand bytes entries (e ∷ more) (blocks ∷ others)

pub record HasAllBlocks (bytes : List ℕ) (entries : ℕ) (all : List Entry) : Type 0 where
  pub blocks : List (List Block)
  pub stand : AllStand bytes entries all blocks

-- why the blocks of series are refused
abbrev pub IsBlocksFault : List ℕ → (entries : ℕ) → List Entry → ReadFault → Type 0
IsBlocksFault bytes entries all (Broken at) = SomeBreaks bytes entries all at
IsBlocksFault bytes entries all Memory = ⊤
