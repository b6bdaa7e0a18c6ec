-- Where bytes that are no part break: the first wrong field, in the order in which a part is read.
-- That is its front, the footer, the entries, the label table, the postings and the blocks.
use Rattle.std.specs.Prelude.{◌≡◌, ℕ, zero, suc, ◌+◌, ◌-◌, ◌*◌, ◌%◌, ◌<◌, ◌≤◌, ◌==◌, ◌&&◌, ◌||◌, nat_le, nat_lt, not, Bool, true, false, List, [], ◌∷◌, ◌++◌, length, take, bytes_eq, Option, Some, None, if◌then◌else◌, ⊤}
use Rattle.std.specs.Int.{w64, from_be_bytes}
use Rattle.std.specs.Option.{option_map_or}
use Rattle.vm_base.specs.Sample.{is_sample}
use Rattle.vm_base.specs.Sorted.{last_of}
use Rattle.vm_base.specs.Stamped.{is_in_order}
use Rattle.vm_base.specs.declared.stamped.Stamped.{Stamped}
use Rattle.vm_block.specs.Block.{BreaksAt, scaled_by}
use Rattle.vm_block.specs.Header.{IsHeader, field, field_rules, first_broken, header_bytes, is_last_time, is_time}
use Rattle.vm_block.specs.declared.header.BlockHeader.{BlockHeader}
use Rattle.vm_index.specs.Bytes.{postings_bytes}
use Rattle.vm_index.specs.Index.{postings_of}
use Rattle.vm_index.specs.Reading.{IsRefused, IsTable}
use Rattle.vm_index.specs.declared.fault.IndexFault.TheVariants.{BrokenTable, BrokenPostings}
use Rattle.vm_labels.specs.declared.pair.Pair.{Pair}
use Rattle.vm_part.specs.Part.{Block, SaysSamples, blocks_bytes, end_mark, front_mark, samples_in}
use Rattle.vm_part.specs.declared.entry.Entry.{Entry}
use Rattle.vm_part.specs.declared.fault.ReadFault.{ReadFault}
use Rattle.vm_part.specs.declared.fault.ReadFault.TheVariants.{Broken, Memory}
use Rattle.vm_part.specs.declared.footer.Footer.{Footer}

-- the number of eight bytes at a place
abbrev pub number_at : ℕ → List ℕ → ℕ
number_at at bytes = from_be_bytes w64 (field 8 at bytes)

-- the bytes between two places
abbrev pub between : ℕ → ℕ → List ℕ → List ℕ
between from to bytes = field (to - from) from bytes

-- whether eight bytes stand at a place
abbrev pub is_whole : ℕ → List ℕ → Bool
is_whole at bytes = nat_le (at + 8) (length bytes)

-- ---- the footer

-- what the footer of a part of so many bytes says: it is its last 48 bytes
abbrev pub footer_at : ℕ → List ℕ → Footer
footer_at at bytes = record {
  entries_at = number_at at bytes;
  table_at = number_at (at + 8) bytes;
  postings_at = number_at (at + 16) bytes;
  series = number_at (at + 24) bytes;
  rows = number_at (at + 32) bytes;
}

-- The place of each field, and whether it stands there and keeps its rule: the sections stand one
-- behind the other, and between the first two places there are as many entries as series, one at
-- least.
abbrev pub footer_rules : ℕ → List ℕ → List (ℕ × Bool)
footer_rules at bytes =
    let f = footer_at at bytes in
    (at, is_whole at bytes && nat_le 8 f.entries_at && nat_le f.entries_at at)
    ∷ (
      at + 8,
      is_whole (at + 8) bytes && nat_lt f.entries_at f.table_at
          && (f.table_at - f.entries_at) % 40 == 0 && nat_le f.table_at at,
    )
    ∷ (
      at + 16,
      is_whole (at + 16) bytes && nat_le f.table_at f.postings_at
          && nat_le f.postings_at at,
    )
    ∷ (at + 24, is_whole (at + 24) bytes && f.series * 40 == f.table_at - f.entries_at)
    ∷ (at + 32, is_whole (at + 32) bytes)
    ∷ (at + 40, is_whole (at + 40) bytes && bytes_eq (field 8 (at + 40) bytes) end_mark)
    ∷ []

-- ---- the entries

abbrev pub entry_at : ℕ → List ℕ → Entry
entry_at at bytes = record {
  start = number_at at bytes;
  blocks = number_at (at + 8) bytes;
  rows = number_at (at + 16) bytes;
  first_time = number_at (at + 24) bytes;
  last_time = number_at (at + 32) bytes;
}

-- so many entries from a place on
abbrev pub entries_at : ℕ → ℕ → List ℕ → List Entry
entries_at zero at bytes = []
entries_at (suc n) at bytes = entry_at at bytes ∷ entries_at n (at + 40) bytes

-- whether the blocks of a series may begin at a place: the first ones stand behind the front, and
-- others behind the headers of those before them
abbrev pub may_start : Option Entry → ℕ → Bool
may_start None start = start == 8
may_start (Some before) start =
    if before.blocks == 0 then start == before.start
    else nat_le (before.start + 40 * before.blocks) start

-- a last series without blocks has its place behind all blocks
abbrev pub ends_there : (end : ℕ) → (is_last : Bool) → Entry → Bool
ends_there end is_last e = not is_last || nat_lt 0 e.blocks || e.start == end

-- a series without blocks has no times
abbrev pub none_without_blocks : Entry → ℕ → Bool
none_without_blocks e time = nat_lt 0 e.blocks || time == 0

-- The place of each field of an entry, and whether it keeps its rule. `end` is where the blocks
-- end, and `adds_up` is false where the entry is the last one and the rows of all are wrong.
abbrev pub entry_rules : (end at : ℕ) → Option Entry → (is_last adds_up : Bool) → Entry
    → List (ℕ × Bool)
entry_rules end at before is_last adds_up e =
    (at, may_start before e.start && ends_there end is_last e)
    ∷ (at + 8, nat_le (e.start + 40 * e.blocks) end)
    ∷ (at + 16, nat_le e.blocks e.rows && nat_le e.rows (8192 * e.blocks) && adds_up)
    ∷ (at + 24, is_time e.first_time && none_without_blocks e e.first_time)
    ∷ (at + 32, is_last_time e.first_time e.last_time && none_without_blocks e e.last_time)
    ∷ []

-- Of so many entries from a place on, where `so_far` rows are those of the entries before them. The
-- rows of all entries are as many as the footer says, which is `rows`, or else those of the last
-- one are wrong.
abbrev pub entries_rules : (end : ℕ) → List ℕ → (rows : ℕ) → (n at : ℕ) → Option Entry
    → (so_far : ℕ) → List (ℕ × Bool)
entries_rules end bytes rows zero at before so_far = []
entries_rules end bytes rows (suc n) at before so_far =
    let e = entry_at at bytes in
    entry_rules end at before (n == 0) (not (n == 0) || so_far + e.rows == rows) e
    ++ entries_rules end bytes rows n (at + 40) (Some e) (so_far + e.rows)

-- ---- all fields but those of the index and of blocks

-- the place of each field, and whether it keeps its rule, where the footer stands at this place
abbrev pub rules : ℕ → List ℕ → List (ℕ × Bool)
rules at bytes =
    let f = footer_at at bytes in
    (0, is_whole 0 bytes && bytes_eq (take 8 bytes) front_mark)
    ∷ footer_rules at bytes
    ++ entries_rules f.entries_at bytes f.rows f.series f.entries_at None 0

-- ---- blocks

-- the first sample of a block, by its header, where its value is one of a sample
abbrev pub first_sample : BlockHeader → Option Stamped
first_sample h =
    let value = scaled_by h.exponent h.first_m in
    if is_sample value then Some (record { time = h.first_time; value = value }) else None

-- whether one sample may follow another, where both are there
abbrev pub may_follow : Option Stamped → Option Stamped → Bool
may_follow None sample = true
may_follow (Some last) sample = option_map_or (is_in_order last) sample true

-- Whether a block with this header may stand behind others of its series, where so much room is
-- left up to the blocks of the next series: it fits in, and the last block fills the room; it
-- doesn't fall behind the last sample; the rows are no more than the entry's, and at the last block
-- as many; the first block begins and the last one ends at the times of the entry.
abbrev pub may_stand : (room : ℕ) → Entry → List Block → BlockHeader → Bool
may_stand room e before h =
    let len = 40 + h.times_len + h.values_len in
    let is_last = suc (length before) == e.blocks in
    let rows = length (samples_in before) + h.count in
    (if is_last then len == room else nat_le len room)
    && may_follow (last_of (samples_in before)) (first_sample h)
    && (if is_last then rows == e.rows else nat_le rows e.rows)
    && (nat_lt 0 (length before) || h.first_time == e.first_time)
    && (not is_last || h.last_time == e.last_time)

-- What is wrong with the bytes behind some blocks of a series, up to the entries, and at which
-- place of them.
pub data BreaksBehind (room : ℕ) (e : Entry) (before : List Block) (rest : List ℕ) : ℕ
    → Type 0 where
  -- no header stands there, or one that breaks its rules
  no_header : length rest < 40 → BreaksBehind room e before rest 0
  bad_header : (at : ℕ) → 40 ≤ length rest → first_broken (field_rules (take 40 rest)) ≡ Some at
      → BreaksBehind room e before rest at
  -- no block with this header may stand there
  misplaced : (h : BlockHeader) → IsHeader h → take 40 rest ≡ header_bytes h
      → may_stand room e before h ≡ false
      → BreaksBehind room e before rest 0
  -- the block itself breaks
  bad_body : (h : BlockHeader) (at : ℕ) → IsHeader h → take 40 rest ≡ header_bytes h
      → may_stand room e before h ≡ true
      → BreaksAt h (field (h.times_len + h.values_len) 40 rest) at
      → BreaksBehind room e before rest at

-- each of these blocks may stand behind those before it, and says its samples
pub data Stand (room : ℕ) (e : Entry) : List Block → Type 0 where
  none : Stand room e []
  next : (before : List Block) (b : Block) → Stand room e before → SaysSamples b
      → may_stand (room - length (blocks_bytes before)) e before b.header ≡ true
      → Stand room e (before ++ b ∷ [])

-- of a series whose blocks end at a place: some stand there, and behind them it breaks
pub record SeriesBreaks (bytes : List ℕ) (entries end : ℕ) (e : Entry) (at : ℕ) : Type 0 where
  pub before : List Block
  pub place : ℕ
  pub stand : Stand (end - e.start) e before
  pub spelled : field (length (blocks_bytes before)) e.start bytes ≡ blocks_bytes before
  pub few : length before < e.blocks
  pub broken :
      BreaksBehind (end - e.start - length (blocks_bytes before)) e before
      (between (e.start + length (blocks_bytes before)) entries bytes) place
  pub is : at ≡ e.start + length (blocks_bytes before) + place

-- all blocks of a series stand there
pub record SeriesStands (bytes : List ℕ) (end : ℕ) (e : Entry) (blocks : List Block) : Type 0 where
  pub stand : Stand (end - e.start) e blocks
  pub spelled : field (length (blocks_bytes blocks)) e.start bytes ≡ blocks_bytes blocks
  pub all : length blocks ≡ e.blocks

-- where the blocks of a series end: where those of the next one begin, or the entries
abbrev pub end_of : (entries : ℕ) → List Entry → ℕ
end_of entries [] = entries
end_of entries (following ∷ more) = following.start

-- the first series whose blocks break
pub data SomeBreaks (bytes : List ℕ) (entries : ℕ) : List Entry → ℕ → Type 0 where
  here : (e : Entry) (more : List Entry) (at : ℕ)
      → SeriesBreaks bytes entries (end_of entries more) e at
      → SomeBreaks bytes entries (e ∷ more) at
  later : (e : Entry) (more : List Entry) (blocks : List Block) (at : ℕ)
      → SeriesStands bytes (end_of entries more) e blocks
      → SomeBreaks bytes entries more at → SomeBreaks bytes entries (e ∷ more) at

-- ---- the whole file

abbrev pub table_in : Footer → List ℕ → List ℕ
table_in f bytes = between f.table_at f.postings_at bytes

abbrev pub postings_in : ℕ → Footer → List ℕ → List ℕ
postings_in at f bytes = between f.postings_at at bytes

-- The bytes of a file that is to have so many are no part, and break at this place.
pub data Breaks (len : ℕ) (bytes : List ℕ) : ℕ → Type 0 where
  too_short : len < 56 → Breaks len bytes 0
  wrong_field : (at : ℕ) → 56 ≤ len → first_broken (rules (len - 48) bytes) ≡ Some at
      → Breaks len bytes at
  in_table : (f : Footer) (at : ℕ) → 56 ≤ len → first_broken (rules (len - 48) bytes) ≡ None
      → f ≡ footer_at (len - 48) bytes
      → IsRefused f.series (table_in f bytes) (postings_in (len - 48) f bytes) (BrokenTable at)
      → Breaks len bytes (f.table_at + at)
  in_postings : (f : Footer) (at : ℕ) → 56 ≤ len → first_broken (rules (len - 48) bytes) ≡ None
      → f ≡ footer_at (len - 48) bytes
      → IsRefused f.series (table_in f bytes) (postings_in (len - 48) f bytes) (BrokenPostings at)
      → Breaks len bytes (f.postings_at + at)
  in_blocks : (f : Footer) (sets : List (List Pair)) (at : ℕ) → 56 ≤ len
      → first_broken (rules (len - 48) bytes) ≡ None
      → f ≡ footer_at (len - 48) bytes
      → IsTable f.series (table_in f bytes) sets
      → postings_in (len - 48) f bytes ≡ postings_bytes (postings_of sets)
      → SomeBreaks bytes f.entries_at (entries_at f.series f.entries_at bytes) at
      → Breaks len bytes at

-- why the bytes of a file are refused; nothing is said of want of memory
abbrev pub IsReadFault : ℕ → List ℕ → ReadFault → Type 0
IsReadFault len bytes (Broken at) = Breaks len bytes at
IsReadFault len bytes Memory = ⊤
