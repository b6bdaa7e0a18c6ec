-- What is written of a part, section by section.
use Rattle.std.specs.Prelude.{◌≡◌, ℕ, ◌+◌, ◌^◌, ◌<◌, ◌≤◌, List, [], ◌∷◌, ◌++◌, length, flat_map}
use Rattle.std.specs.Int.{w64, to_be_bytes}
use Rattle.std.specs.List.{AllByRecursion}
use Rattle.vm_base.specs.Sorted.{IsUp, last_of}
use Rattle.vm_base.specs.Stamped.{is_in_order}
use Rattle.vm_base.specs.declared.stamped.Stamped.{Stamped}
use Rattle.vm_index.specs.Bytes.{postings_bytes, table_bytes}
use Rattle.vm_index.specs.Index.{postings_of}
use Rattle.vm_labels.specs.declared.pair.Pair.{Pair}
use Rattle.vm_series.specs.declared.series.Series.{Series}
use Rattle.vm_part.specs.Part.{Block, IsStored, SaysSamples, Stored, blocks_bytes, end_mark, entries_from, entry_bytes, entry_of, first_of, samples_in, series_bytes, time_of}
use Rattle.vm_part.specs.Said.{AreBlocks, AreCutUp}
use Rattle.vm_part.specs.declared.entry.Entry.{Entry}
use Rattle.vm_part.specs.declared.footer.Footer.{Footer}

-- ---- blocks

-- samples that a series can have: some, in order, at times in their range
pub record AreSamples (samples : List Stamped) : Type 0 where
  pub some : 1 ≤ length samples
  pub order : IsUp is_in_order samples
  pub times : AllByRecursion (λ sample. sample.time < 2 ^ 48) samples

-- a series with such samples
abbrev pub IsWritable : Series → Type 0
IsWritable series = AreSamples series.samples

-- the entry of samples that stand from a place on in so many blocks
abbrev pub summed : ℕ → ℕ → List Stamped → Entry
summed start blocks samples = record {
  start = start;
  blocks = blocks;
  rows = length samples;
  first_time = time_of (first_of samples);
  last_time = time_of (last_of samples);
}

-- the blocks of samples stand behind some bytes, and the entry says so
pub record IsPut (samples : List Stamped) (before after : List ℕ) (entry : Entry) : Type 0 where
  pub blocks : List Block
  pub cut : AreBlocks samples blocks
  pub say : AllByRecursion SaysSamples blocks
  pub order : IsUp is_in_order (samples_in blocks)
  pub bytes : after ≡ before ++ blocks_bytes blocks
  pub said : (labels : List Pair)
      → entry ≡ entry_of (length before) (record { labels = labels; blocks = blocks })

-- the blocks of series stand behind some bytes, and an entry for each says so
pub record ArePut (series : List Series) (before after : List ℕ) (entries : List Entry) :
    Type 0 where
  pub all : List Stored
  pub cut : AreCutUp series all
  pub stored : AllByRecursion IsStored all
  pub bytes : after ≡ before ++ flat_map series_bytes all
  pub said : entries ≡ entries_from (length before) all

-- ---- the sections behind them

abbrev pub footer_bytes : Footer → List ℕ
footer_bytes f =
    flat_map (to_be_bytes w64) (f.entries_at ∷ f.table_at ∷ f.postings_at ∷ f.series ∷ f.rows ∷ [])
    ++ end_mark

-- the footer of so many series with these entries and label sets, behind so many bytes
abbrev pub footer_behind : ℕ → List Entry → List (List Pair) → ℕ → ℕ → Footer
footer_behind at entries sets series rows = record {
  entries_at = at;
  table_at = at + length (flat_map entry_bytes entries);
  postings_at = at + length (flat_map entry_bytes entries) + length (table_bytes sets);
  series = series;
  rows = rows;
}

-- the bytes with all sections behind them
abbrev pub with_sections : List ℕ → List Entry → List (List Pair) → ℕ → ℕ → List ℕ
with_sections before entries sets series rows =
    before ++ flat_map entry_bytes entries ++ table_bytes sets ++ postings_bytes (postings_of sets)
    ++ footer_bytes (footer_behind (length before) entries sets series rows)
