-- A file of which each section was read is the part of its series.
use Rattle.std.proofs.Common.{◌≡◌, ℕ, zero, suc, ◌+◌, ◌-◌, ◌*◌, ◌^◌, ◌<◌, ◌≤◌, List, [], ◌∷◌, ◌++◌, length, take, drop, flat_map, Option, Some, None, refl, ap, ap₂, sym, ◌∙◌, subst, inl, inr, append_assoc, arith, length-append, w64}
use Rattle.std.specs.Int.{to_be_bytes}
use Rattle.std.specs.List.{AllByRecursion, sum_by}
use Rattle.std.proofs.lemmas.Bool.{cases_lt}
use Rattle.std.proofs.lemmas.List.{drop-drop, get_or-drop, get_or-take, get_or_past, length-drop, length-map, length-take-le, take-append-drop, take_all}
use Rattle.std.proofs.lemmas.List.Sums.{sum_by-cons}
use Rattle.std.proofs.lemmas.Nat.{be_bytes_8}
use Rattle.vm_block.specs.Header.{field}
use Rattle.vm_index.specs.Bytes.{postings_bytes, table_bytes}
use Rattle.vm_index.specs.Index.{AreSets, postings_of}
use Rattle.vm_index.specs.Reading.{IsTable}
use Rattle.vm_index.proofs.ReadLaws.{IsBytes}
use Rattle.vm_labels.specs.declared.pair.Pair.{Pair}
use Rattle.vm_part.specs.Broken.{SeriesStands, end_of, entries_at, footer_at, number_at, postings_in, table_in}
use Rattle.vm_part.specs.Part.{Block, IsStored, Stored, blocks_bytes, entries, entries_from, entry_bytes, entry_of, footer, front, front_mark, image, postings, samples_in, samples_of, series_bytes, sets_of, table}
use Rattle.vm_part.specs.inner.Reading.{AllStand, AreSections, HasAllBlocks}
use Rattle.vm_part.specs.inner.Reading.AllStand.{none, next}
use Rattle.vm_part.specs.Said.{Says}
use Rattle.vm_part.specs.declared.entry.Entry.{Entry}
use Rattle.vm_part.specs.declared.footer.Footer.{Footer}
use Rattle.vm_part.proofs.BlockLaws.{split_field, stand_blocks, stand_order, stand_whole}
use Rattle.vm_part.proofs.EntryLaws.{AllKeep, ends_last, follows, no_time, places_rise}

-- ---- one series

pub record OneSeries (bytes : List ℕ) (end : ℕ) (e : Entry) (s : Stored) : Type 0 where
  pub entry : e ≡ entry_of e.start s
  pub ends : end ≡ e.start + length (blocks_bytes s.blocks)
  pub stored : IsStored s

abbrev made : List Pair → List Block → Stored
made labels blocks = record { labels = labels; blocks = blocks }

-- the blocks of a series are what its entry says
one_series : (bytes : List ℕ) (end : ℕ) (e : Entry) (labels : List Pair) (blocks : List Block)
    → e.start ≤ end
    → (e.blocks ≡ 0 → end ≡ e.start) → e.rows ≤ 8192 * e.blocks → (e.blocks ≡ 0 → e.first_time ≡ 0)
    → (e.blocks ≡ 0 → e.last_time ≡ 0)
    → SeriesStands bytes end e blocks → OneSeries bytes end e (made labels blocks)
one_series bytes end e labels [] begins empty most first last stands =
    let no : e.blocks ≡ 0 = sym stands.all in
    let no_rows : e.rows ≡ 0 = omega (arith, no, most) in
    record {
      entry = λ i.
          record {
            start = e.start;
            blocks = no i;
            rows = no_rows i;
            first_time = first no i;
            last_time = last no i;
          };
      ends = omega (arith, empty no);
      stored = record { blocks = tt; order = tt };
    }
one_series bytes end e labels (b ∷ more) begins empty most first last stands =
    let blocks = b ∷ more in
    let whole =
    stand_whole (end - e.start) e blocks stands.stand stands.all
    (subst (λ n. 1 ≤ n) stands.all (omega arith)) in
    record {
      entry = λ i. record {
        start = e.start;
        blocks = sym stands.all i;
        rows = sym whole.rows i;
        first_time = sym whole.first i;
        last_time = sym whole.last i;
      };
      ends = omega (arith, whole.bytes);
      stored =
          record {
            blocks = stand_blocks (end - e.start) e blocks stands.stand;
            order = stand_order (end - e.start) e blocks stands.stand;
          };
    }

-- ---- all series

-- label sets and the blocks of each
abbrev pub stored : List (List Pair) → List (List Block) → List Stored
stored [] others = []
stored (labels ∷ sets) [] = []
stored (labels ∷ sets) (blocks ∷ others) = made labels blocks ∷ stored sets others

abbrev all_blocks : List Stored → List ℕ
all_blocks all = flat_map series_bytes all

pub record AllSeries (bytes : List ℕ) (end start : ℕ) (es : List Entry) (sets : List (List Pair))
    (all : List Stored) : Type 0 where
  pub entries : es ≡ entries_from start all
  pub each : AllByRecursion IsStored all
  pub ends : end ≡ start + length (flat_map series_bytes all)
  pub spelled : field (length (flat_map series_bytes all)) start bytes ≡ flat_map series_bytes all
  pub rows : sum_by (λ e. e.rows) es ≡ length (flat_map samples_of all)
  pub named : sets_of all ≡ sets

pub all_series :
    (bytes : List ℕ) (end start : ℕ) (before : Option Entry) (es : List Entry)
    (sets : List (List Pair)) (bss : List (List Block))
    → start ≡ end_of end es → length sets ≡ length es → AllKeep end before es
    → AllStand bytes end es bss
    → AllSeries bytes end start es sets (stored sets bss)
all_series bytes end start before [] [] _ begins many keep none = record {
  entries = refl;
  each = tt;
  ends = omega (arith, begins);
  spelled = refl;
  rows = refl;
  named = refl;
}
all_series bytes end start before [] (labels ∷ sets) _ begins many keep none = absurd (cc)
all_series bytes end start before (e ∷ more) [] _ begins many keep
    (next _ _ blocks others stands rest) = absurd (cc)
all_series bytes end start before (e ∷ more) (labels ∷ sets) _ begins many keep
    (next _ _ blocks others stands rest) =
    let k = keep.0 in
    let rise = places_rise end before (e ∷ more) keep in
    let one =
    one_series bytes (end_of end more) e labels blocks rise.0 (empty more keep) k.most
    (no_time e e.first_time k.first) (no_time e e.last_time k.last) stands in
    let all =
    all_series bytes end (end_of end more) (Some e) more sets others refl (omega arith) keep.1
    rest in
    let mine = blocks_bytes blocks in
    let theirs = all_blocks (stored sets others) in
    let ends : end_of end more ≡ start + length mine = omega (arith, one.ends, begins) in
    let long = length-append mine theirs in
    record {
      entries =
          ap₂ (λ x xs. x ∷ xs) (one.entry ∙ ap (λ n. entry_of n (made labels blocks)) (sym begins))
          (all.entries ∙ ap (λ n. entries_from n (stored sets others)) ends);
      each = (one.stored, all.each);
      ends = omega (arith, all.ends, ends, long);
      spelled =
          ap (λ n. field n start bytes) long
          ∙ split_field bytes (length mine) (length theirs) start (end_of end more) ends
          ∙ ap₂ (λ xs ys. xs ++ ys) (ap (λ n. field (length mine) n bytes) begins ∙ stands.spelled)
          all.spelled;
      rows =
          sum_by-cons (λ (x : Entry). x.rows) e more
          ∙ ap₂ (λ x y. x + y) (ap (λ (x : Entry). x.rows) one.entry) all.rows
          ∙ sym (length-append (samples_in blocks) (flat_map samples_of (stored sets others)));
      named = ap (λ ss. labels ∷ ss) all.named;
    }
  where
    empty : (others : List Entry) → AllKeep end before (e ∷ others) → e.blocks ≡ 0
        → end_of end others ≡ e.start
    empty [] keep = ends_last end e keep.0.ends
    empty (f ∷ others) keep = (follows e f keep.1.0.start).same

-- ---- numbers and entries as bytes

module _ (bytes : List ℕ) (are : IsBytes bytes) where
  field_are : (n at : ℕ) → n + at ≤ length bytes → IsBytes (field n at bytes)
  field_are n at fits i =
      elim (cases_lt i n) [
        | inl inside ↦
            rw (get_or-take n (drop at bytes) i 0 inside, get_or-drop at bytes i 0) (are (at + i))
        | inr past ↦
            rw (get_or_past (field n at bytes) i 0
            (omega (arith, length-take-le n (drop at bytes) (omega (arith, length-drop at bytes)))))
            (omega arith)
      ]

  nothing : (xs : List ℕ) → xs ≡ xs
  nothing xs = refl

  one_number : (at : ℕ) → at + 8 ≤ length bytes
      → to_be_bytes w64 (number_at at bytes) ≡ field 8 at bytes
  one_number at fits =
      be_bytes_8 (field 8 at bytes) (number_at at bytes)
      (length-take-le 8 (drop at bytes) (omega (arith, length-drop at bytes)))
      (field_are 8 at (omega arith)) refl

  abbrev numbers : ℕ → List ℕ
  numbers at =
      number_at at bytes ∷ number_at (at + 8) bytes ∷ number_at (at + 16) bytes
      ∷ number_at (at + 24) bytes ∷ number_at (at + 32) bytes ∷ []

  five_numbers : (at : ℕ) → at + 40 ≤ length bytes
      → flat_map (to_be_bytes w64) (numbers at) ≡ field 40 at bytes
  five_numbers at fits =
      ap₂ (λ xs ys. xs ++ ys) (one_number at (omega arith))
      (ap₂ (λ xs ys. xs ++ ys) (one_number (at + 8) (omega arith))
      (ap₂ (λ xs ys. xs ++ ys) (one_number (at + 16) (omega arith))
      (ap₂ (λ xs ys. xs ++ ys) (one_number (at + 24) (omega arith))
      (ap₂ (λ xs ys. xs ++ ys) (one_number (at + 32) (omega arith)) (nothing [])
      ∙ sym (split_field bytes 8 0 (at + 32) (at + 40) (omega arith)))
      ∙ sym (split_field bytes 8 8 (at + 24) (at + 32) (omega arith)))
      ∙ sym (split_field bytes 8 16 (at + 16) (at + 24) (omega arith)))
      ∙ sym (split_field bytes 8 24 (at + 8) (at + 16) (omega arith)))
      ∙ sym (split_field bytes 8 32 at (at + 8) refl)

  entries_spelled : (n at : ℕ) → at + 40 * n ≤ length bytes
      → field (40 * n) at bytes ≡ flat_map entry_bytes (entries_at n at bytes)
  entries_spelled zero at fits = refl
  entries_spelled (suc n) at fits =
      ap (λ k. field k at bytes) (omega arith) ∙ split_field bytes 40 (40 * n) at (at + 40) refl
      ∙ ap₂ (λ xs ys. xs ++ ys) (sym (five_numbers at (omega arith)))
      (entries_spelled n (at + 40) (omega arith))

-- ---- sections one behind the other

cut : (bytes : List ℕ) (a b : ℕ) → a ≤ b → drop a bytes ≡ field (b - a) a bytes ++ drop b bytes
cut bytes a b rise =
    sym (take-append-drop (b - a) (drop a bytes))
    ∙ ap (λ rest. field (b - a) a bytes ++ rest)
    (drop-drop (b - a) a bytes ∙ ap (λ n. drop n bytes) (omega arith))

between_long : (bytes : List ℕ) (a b : ℕ) → a ≤ b → b ≤ length bytes
    → length (field (b - a) a bytes) ≡ b - a
between_long bytes a b rise within =
    length-take-le (b - a) (drop a bytes) (omega (arith, length-drop a bytes))

regroup : (a b e t p f : List ℕ) → a
    ++ (b ++ (e ++ (t ++ (p ++ f)))) ≡ ((((a ++ b) ++ e) ++ t) ++ p) ++ f
regroup a b e t p f = sym (simp append_assoc)

-- what stands in the sections of a file is the image of the series
pub record Sections (at : ℕ) (bytes : List ℕ) (f : Footer) (all : List Stored) : Type 0 where
  pub blocks : field (f.entries_at - 8) 8 bytes ≡ flat_map series_bytes all
  pub entries : field (f.table_at - f.entries_at) f.entries_at bytes ≡ entries all
  pub table : field (f.postings_at - f.table_at) f.table_at bytes ≡ table all
  pub postings : field (at - f.postings_at) f.postings_at bytes ≡ postings all
  pub many : length all ≡ f.series
  pub rows : length (flat_map samples_of all) ≡ f.rows

pub is_image : (at : ℕ) (bytes : List ℕ) (f : Footer) (all : List Stored) → IsBytes bytes
    → length bytes ≡ at + 48 → AreSections at bytes f
    → f ≡ footer_at at bytes → Sections at bytes f all → bytes ≡ image all
unfolding image
is_image at bytes f all are long s f_is says =
    sym (take-append-drop 8 bytes)
    ∙ ap (λ rest. take 8 bytes ++ rest) (cut bytes 8 f.entries_at s.low
    ∙ ap (λ rest. field (f.entries_at - 8) 8 bytes ++ rest) (cut bytes f.entries_at f.table_at rise
    ∙ ap (λ rest. field (f.table_at - f.entries_at) f.entries_at bytes ++ rest)
    (cut bytes f.table_at f.postings_at s.table
    ∙ ap (λ rest. field (f.postings_at - f.table_at) f.table_at bytes ++ rest)
    (cut bytes f.postings_at at s.postings))))
    ∙ (λ i. s.front i
    ++ (says.blocks i ++ (says.entries i ++ (says.table i ++ (says.postings i ++ last i)))))
    ∙ regroup front_mark (flat_map series_bytes all) (entries all) (table all) (postings all)
    (footer all)
  where
    rise : f.entries_at ≤ f.table_at
    rise = let e = s.entries in omega arith

    front_long : length (front all) ≡ f.entries_at
    front_long =
        let l = length-append front_mark (flat_map series_bytes all) in
        let b = sym (ap length says.blocks)
        ∙ between_long bytes 8 f.entries_at s.low (omega (arith, rise, s.table, s.postings)) in
        omega (arith, l, b, s.low)

    table_place : length (front all) + length (entries all) ≡ f.table_at
    table_place =
        let e = sym (ap length says.entries)
        ∙ between_long bytes f.entries_at f.table_at rise
        (omega (arith, s.table, s.postings)) in
        omega (arith, e, front_long, rise)

    postings_place : length (front all) + length (entries all) + length (table all) ≡ f.postings_at
    postings_place =
        let t = sym (ap length says.table)
        ∙ between_long bytes f.table_at f.postings_at s.table (omega (arith, s.postings)) in
        omega (arith, t, table_place, s.table)

    places :
        flat_map (to_be_bytes w64)
        (number_at at bytes ∷ number_at (at + 8) bytes ∷ number_at (at + 16) bytes
        ∷ number_at (at + 24) bytes ∷ number_at (at + 32) bytes ∷ [])
        ≡ flat_map (to_be_bytes w64)
        (length (front all) ∷ (length (front all) + length (entries all))
        ∷ (length (front all) + length (entries all) + length (table all))
        ∷ length all ∷ length (flat_map samples_of all) ∷ [])
    places =
        let p0 = sym (front_long ∙ ap (λ (x : Footer). x.entries_at) f_is) in
        let p1 = sym (table_place ∙ ap (λ (x : Footer). x.table_at) f_is) in
        let p2 = sym (postings_place ∙ ap (λ (x : Footer). x.postings_at) f_is) in
        let p3 = sym (says.many ∙ ap (λ (x : Footer). x.series) f_is) in
        let p4 = sym (says.rows ∙ ap (λ (x : Footer). x.rows) f_is) in
        λ i. flat_map (to_be_bytes w64) (p0 i ∷ p1 i ∷ p2 i ∷ p3 i ∷ p4 i ∷ [])

    last : drop at bytes ≡ footer all
    last =
        sym (take_all 48 (drop at bytes) (omega (arith, length-drop at bytes)))
        ∙ split_field bytes 40 8 at (at + 40) refl
        ∙ ap₂ (λ xs ys. xs ++ ys) (sym (five_numbers bytes are at (omega arith)) ∙ places) s.mark

-- ---- the part

pub says_all : (at : ℕ) (bytes : List ℕ) (f : Footer) (es : List Entry) (sets : List (List Pair))
    → IsBytes bytes → length bytes ≡ at + 48
    → AreSections at bytes f → f ≡ footer_at at bytes → es ≡ entries_at f.series f.entries_at bytes
    → length es ≡ f.series → end_of f.entries_at es ≡ 8
    → AllKeep f.entries_at None es → sum_by (λ e. e.rows) es ≡ f.rows
    → IsTable f.series (table_in f bytes) sets
    → postings_in at f bytes ≡ postings_bytes (postings_of sets)
    → HasAllBlocks bytes f.entries_at es → length bytes < 2 ^ 64 → f.rows < 2 ^ 64
    → Says (record { bytes = bytes; sets = sets; entries = es; rows = f.rows }) (λ all. Unit {0})
says_all at bytes f es sets are long s f_is es_are many begins keep rows is_table postings_are has
    small few =
    let all = stored sets has.blocks in
    let series =
    all_series bytes f.entries_at 8 None es sets has.blocks (sym begins)
    (is_table.many ∙ sym many) keep has.stand in
    let count : length all ≡ f.series = sym (length-map all (λ (x : Stored). x.labels))
    ∙ ap length series.named ∙ is_table.many in
    let counted : length (flat_map samples_of all) ≡ f.rows = sym series.rows ∙ rows in
    let blocks_len : f.entries_at - 8 ≡ length (flat_map series_bytes all) =
    omega (arith, series.ends) in
    let entries_len : f.table_at - f.entries_at ≡ 40 * f.series = omega (arith, s.entries) in
    record {
      all = all;
      said = record {
        bytes = record {
          stored = record {
            some = omega (arith, count, s.some);
            sets = subst AreSets (sym series.named) is_table.labels;
            each = series.each;
          };
          spelled = is_image at bytes f all are long s f_is (record {
            blocks = ap (λ n. field n 8 bytes) blocks_len ∙ series.spelled;
            entries =
                ap (λ n. field n f.entries_at bytes) entries_len
                ∙ entries_spelled bytes are f.series f.entries_at
                (omega (arith, s.entries, s.table, s.postings))
                ∙ ap (flat_map entry_bytes) (sym es_are ∙ series.entries);
            table = is_table.spelled ∙ ap table_bytes (sym series.named);
            postings = postings_are ∙ ap (λ ss. postings_bytes (postings_of ss)) (sym series.named);
            many = count;
            rows = counted;
          });
          long = small;
          rows = subst (λ n. n < 2 ^ 64) (sym counted) few;
        };
        sets = sym series.named;
        entries = series.entries;
        rows = sym counted;
      };
      that = tt;
    }
