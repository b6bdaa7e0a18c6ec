-- What is written of a part, step by step.
use Rattle.std.proofs.Common.{◌≡◌, ℕ, suc, ◌+◌, ◌-◌, ◌^◌, ◌<◌, ◌≤◌, true, List, [], ◌∷◌, ◌++◌, length, get_or, take, map, flat_map, sum_by, refl, sym, ap, ap₂, ◌∙◌, subst, arith, append_assoc, append-nil, length-append}
use Rattle.std.specs.List.{AllByRecursion}
use Rattle.std.specs.Prelude.{⊤}
use Rattle.std.proofs.lemmas.List.{length-map, map-append, take_more}
use Rattle.std.proofs.lemmas.List.Concat.{flat_map-append}
use Rattle.std.proofs.lemmas.List.Elements.{All-from_recursion}
use Rattle.std.proofs.lemmas.List.Sums.{sum_by-cons}
use Rattle.vm_base.specs.Sorted.{IsUp, last_of}
use Rattle.vm_base.specs.Stamped.{is_in_order}
use Rattle.vm_base.specs.declared.stamped.Stamped.{Stamped}
use Rattle.vm_block.specs.Cut.{AreOneBlock, IsCut, fit_one_block, joined}
use Rattle.vm_block.specs.Written.{IsWritten}
use Rattle.vm_index.specs.Bytes.{postings_bytes, table_bytes}
use Rattle.vm_index.specs.Index.{AreSets, postings_of}
use Rattle.vm_index.proofs.ListLaws.{all_append}
use Rattle.vm_labels.specs.declared.pair.Pair.{Pair}
use Rattle.vm_series.specs.Series.{HasSample, IsByTime}
use Rattle.vm_series.specs.declared.series.Series.{Series}
use Rattle.vm_part.specs.inner.Making.{AreSamples, ArePut, IsPut, IsWritable, footer_bytes, summed, with_sections}
use Rattle.vm_part.specs.Part.{Block, IsStored, SaysSamples, Stored, block_bytes, blocks_bytes, entries, entries_from, entries_of, entry_bytes, entry_of, first_of, front, front_mark, image, samples_in, samples_of, series_bytes, sets_of, time_of}
use Rattle.vm_part.specs.Said.{AreBlocks, AreCutUp, CanBeStored, InTime, Kept, Says}
use Rattle.vm_part.specs.Said.AreCutUp.{none, next}
use Rattle.vm_part.specs.declared.entry.Entry.{Entry}
use Rattle.vm_part.specs.declared.footer.Footer.{Footer}

-- ---- what holds of each item

module _ {X : Type 0} (P : X → Type 0) where
  pub all_at : (xs : List X) (i : ℕ) (x : X) → i < length xs → x ≡ get_or xs i x
      → AllByRecursion P xs → P x
  all_at xs i x within is all = subst P (sym is) (All-from_recursion P xs all i x within)

  all_front : (xs ys : List X) → AllByRecursion P (xs ++ ys) → AllByRecursion P xs
  all_front [] ys all = tt
  all_front (x ∷ xs) ys all = (all.0, all_front xs ys all.1)

  all_back : (xs ys : List X) → AllByRecursion P (xs ++ ys) → AllByRecursion P ys
  all_back [] ys all = all
  all_back (x ∷ xs) ys all = all_back xs ys all.1

-- ---- blocks that are to be written

abbrev Early : Stamped → Type 0
Early sample = sample.time < 2 ^ 48

abbrev Fits : List Stamped → Type 0
Fits block = (1 ≤ length block) × (fit_one_block block ≡ true)

up_front : (xs ys : List Stamped) → IsUp is_in_order (xs ++ ys) → IsUp is_in_order xs
up_front [] ys up = tt
up_front (x ∷ xs) ys up = (all_front (λ y. is_in_order x y ≡ true) xs ys up.0, up_front xs ys up.1)

up_back : (xs ys : List Stamped) → IsUp is_in_order (xs ++ ys) → IsUp is_in_order ys
up_back [] ys up = up
up_back (x ∷ xs) ys up = up_back xs ys up.1

one_blocks : (blocks : List (List Stamped)) → IsUp is_in_order (joined blocks)
    → AllByRecursion Early (joined blocks)
    → AllByRecursion Fits blocks → AllByRecursion AreOneBlock blocks
one_blocks [] order times each = tt
one_blocks (block ∷ more) order times each =
    let its : AreOneBlock block = record {
      some = each.0.0;
      fit = each.0.1;
      order = up_front block (joined more) order;
      times = All-from_recursion Early block (all_front Early block (joined more) times);
    } in (
      its,
      one_blocks more (up_back block (joined more) order)
          (all_back Early block (joined more) times) each.1,
    )

-- each block of samples in order may be written
pub may_be_written :
    (samples : List Stamped) (blocks : List (List Stamped)) (i : ℕ) (block : List Stamped)
    → AreSamples samples → IsCut samples blocks → i < length blocks → block ≡ get_or blocks i block
    → AreOneBlock block
may_be_written samples blocks i block are cut within is =
    all_at AreOneBlock blocks i block within is
    (one_blocks blocks (subst (IsUp is_in_order) (sym cut.whole) are.order)
    (subst (AllByRecursion Early) (sym cut.whole) are.times) cut.each)

-- ---- blocks that were written

abbrev IsWrittenSo : Block → Type 0
IsWrittenSo b = IsWritten (block_bytes b) b.samples

abbrev its_samples : Block → List Stamped
its_samples b = b.samples

-- the bytes of these blocks stand behind others
pub record WrittenSoFar (blocks : List (List Stamped)) (before after : List ℕ) : Type 0 where
  pub all : List Block
  pub samples : map its_samples all ≡ blocks
  pub say : AllByRecursion SaysSamples all
  pub written : AllByRecursion IsWrittenSo all
  pub bytes : after ≡ before ++ blocks_bytes all

pub none_written : (before : List ℕ) → WrittenSoFar [] before before
none_written before =
    record { all = []; samples = refl; say = tt; written = tt; bytes = sym (append-nil before) }

pub one_written :
    (blocks : List (List Stamped)) (i : ℕ) (block : List Stamped) (before now after bytes : List ℕ)
    → i < length blocks → block ≡ get_or blocks i block → WrittenSoFar (take i blocks) before now
    → IsWritten bytes block
    → after ≡ now ++ bytes → WrittenSoFar (take (i + 1) blocks) before after
one_written blocks i block before now after bytes within is so_far written put =
    let its : Block = record { header = written.header; body = written.body; samples = block } in
    record {
      all = so_far.all ++ its ∷ [];
      samples =
          map-append its_samples so_far.all (its ∷ [])
          ∙ ap₂ (λ xs (x : List Stamped). xs ++ x ∷ []) so_far.samples is
          ∙ sym (take_more blocks i block within);
      say = all_append SaysSamples so_far.all (its ∷ []) so_far.say (written.block, tt);
      written =
          all_append IsWrittenSo so_far.all (its ∷ []) so_far.written
          (subst (λ bs. IsWritten bs block) written.parts written, tt);
      bytes =
          put ∙ ap₂ (λ xs ys. xs ++ ys) so_far.bytes written.parts
          ∙ append_assoc before (blocks_bytes so_far.all) (block_bytes its)
          ∙ ap (λ bs. before ++ bs)
          (ap (λ bs. blocks_bytes so_far.all ++ bs) (sym (append-nil (block_bytes its)))
          ∙ sym (flat_map-append block_bytes so_far.all (its ∷ [])));
    }

samples_in-joined : (blocks : List Block) → samples_in blocks ≡ joined (map its_samples blocks)
samples_in-joined [] = refl
samples_in-joined (b ∷ blocks) = ap (λ xs. b.samples ++ xs) (samples_in-joined blocks)

-- all blocks of some samples
pub all_written :
    (samples : List Stamped) (blocks : List (List Stamped)) (before after : List ℕ) (entry : Entry)
    → AreSamples samples → IsCut samples blocks → WrittenSoFar blocks before after
    → entry ≡ summed (length before) (length blocks) samples → IsPut samples before after entry
all_written samples blocks before after entry are cut so_far is =
    let whole : samples_in so_far.all ≡ samples = samples_in-joined so_far.all
    ∙ ap joined so_far.samples ∙ cut.whole in
    let many : length blocks ≡ length so_far.all = sym (ap length so_far.samples)
    ∙ length-map so_far.all its_samples in
    record {
      blocks = so_far.all;
      cut = record {
        cut = subst (IsCut samples) (sym so_far.samples) cut;
        written = so_far.written;
      };
      say = so_far.say;
      order = subst (IsUp is_in_order) (sym whole) are.order;
      bytes = so_far.bytes;
      said = λ labels. is ∙ ap₂ (λ n xs. summed (length before) n xs) many (sym whole);
    }

-- the times of the first sample and of the last one
first_time : (samples : List Stamped) (d : Stamped) → 1 ≤ length samples
    → (get_or samples 0 d).time ≡ time_of (first_of samples)
first_time [] d some = absurd (omega arith)
first_time (s ∷ samples) d some = refl

last_time : (samples : List Stamped) (d : Stamped) → 1 ≤ length samples
    → (get_or samples (length samples - 1) d).time ≡ time_of (last_of samples)
last_time [] d some = absurd (omega arith)
last_time (s ∷ []) d some =
    let here : length (s ∷ []) - 1 ≡ 0 = omega arith in
    ap (λ n. (get_or (s ∷ []) n d).time) here
last_time (s ∷ t ∷ samples) d some =
    let there : length (s ∷ t ∷ samples) - 1 ≡ suc (length (t ∷ samples) - 1) = omega arith in
    ap (λ n. (get_or (s ∷ t ∷ samples) n d).time) there ∙ last_time (t ∷ samples) d (omega arith)

abbrev pub entry_with : ℕ → ℕ → ℕ → ℕ → ℕ → Entry
entry_with start blocks rows first last =
    record { start = start; blocks = blocks; rows = rows; first_time = first; last_time = last }

pub entry_said : (start blocks : ℕ) (samples : List Stamped) (c d : Stamped) → 1 ≤ length samples
    → entry_with start blocks (length samples) ((get_or samples 0 c).time)
    ((get_or samples (length samples - 1) d).time) ≡ summed start blocks samples
entry_said start blocks samples c d some =
    ap₂ (λ first last. entry_with start blocks (length samples) first last)
    (first_time samples c some) (last_time samples d some)

-- ---- series

pub writable : (series : List Series) → CanBeStored series → AllByRecursion IsWritable series
writable series can = go series can.are.some can.are.ordered can.times
  where
    go : (all : List Series) → AllByRecursion HasSample all → AllByRecursion IsByTime all
        → AllByRecursion InTime all → AllByRecursion IsWritable all
    go [] some order times = tt
    go (s ∷ all) some order times =
        let its : IsWritable s =
        record { some = omega (arith, some.0); order = order.0; times = times.0 } in
        (its, go all some.1 order.1 times.1)

cut_more : (series : List Series) (all : List Stored) (s : Series) (t : Stored)
    → AreCutUp series all → t.labels ≡ s.labels
    → AreBlocks s.samples t.blocks → AreCutUp (series ++ s ∷ []) (all ++ t ∷ [])
cut_more series all s t none labels are = next [] [] s t labels are none
cut_more series all s t (next older stored r u l a more) labels are =
    next (older ++ s ∷ []) (stored ++ t ∷ []) r u l a (cut_more older stored s t more labels are)

labels_cut : (series : List Series) (all : List Stored) → AreCutUp series all
    → sets_of all ≡ map (λ (s : Series). s.labels) series
labels_cut series all none = refl
labels_cut series all (next older stored r u l a more) =
    ap₂ (λ (x : List Pair) xs. x ∷ xs) l (labels_cut older stored more)

many_cut : (series : List Series) (all : List Stored) → AreCutUp series all
    → length all ≡ length series
many_cut series all none = refl
many_cut series all (next older stored r u l a more) = ap suc (many_cut older stored more)

entries-append : (start : ℕ) (all : List Stored) (s : Stored)
    → entries_from start (all ++ s ∷ []) ≡ entries_from start all
    ++ entry_of (start + length (flat_map series_bytes all)) s ∷ []
entries-append start [] s =
    let here : start ≡ start + 0 = omega arith in
    ap (λ n. entry_of n s ∷ []) here
entries-append start (t ∷ all) s =
    let at : start + length (blocks_bytes t.blocks) + length (flat_map series_bytes all) ≡ start
    + length (flat_map series_bytes (t ∷ all)) =
    omega (arith, length-append (blocks_bytes t.blocks) (flat_map series_bytes all)) in
    ap (λ es. entry_of start t ∷ es)
    (entries-append (start + length (blocks_bytes t.blocks)) all s
    ∙ ap (λ n. entries_from (start + length (blocks_bytes t.blocks)) all ++ entry_of n s ∷ []) at)

pub none_put : (before : List ℕ) → ArePut [] before before []
none_put before =
    record { all = []; cut = none; stored = tt; bytes = sym (append-nil before); said = refl }

pub one_put :
    (series : List Series) (i : ℕ) (one : Series) (samples : List Stamped)
    (before now after : List ℕ) (entries : List Entry) (entry : Entry)
    → i < length series → one ≡ get_or series i one → samples ≡ one.samples
    → ArePut (take i series) before now entries
    → IsPut samples now after entry
    → ArePut (take (i + 1) series) before after (entries ++ entry ∷ [])
one_put series i one samples before now after entries entry within is same so_far put =
    let its : Stored = record { labels = one.labels; blocks = put.blocks } in
    let long : length now ≡ length before + length (flat_map series_bytes so_far.all) =
    ap length so_far.bytes ∙ length-append before (flat_map series_bytes so_far.all) in
    record {
      all = so_far.all ++ its ∷ [];
      cut =
          subst (λ xs. AreCutUp xs (so_far.all ++ its ∷ []))
          (ap (λ x. take i series ++ x ∷ []) is ∙ sym (take_more series i one within))
          (cut_more (take i series) so_far.all one its so_far.cut refl
          (subst (λ xs. AreBlocks xs put.blocks) same put.cut));
      stored =
          all_append IsStored so_far.all (its ∷ []) so_far.stored
          (record { blocks = put.say; order = put.order }, tt);
      bytes =
          put.bytes ∙ ap (λ bs. bs ++ blocks_bytes put.blocks) so_far.bytes
          ∙ append_assoc before (flat_map series_bytes so_far.all) (blocks_bytes put.blocks)
          ∙ ap (λ bs. before ++ bs)
          (ap (λ bs. flat_map series_bytes so_far.all ++ bs)
          (sym (append-nil (blocks_bytes put.blocks)))
          ∙ sym (flat_map-append series_bytes so_far.all (its ∷ [])));
      said =
          ap₂ (λ es (e : Entry). es ++ e ∷ []) so_far.said
          (put.said one.labels ∙ ap (λ n. entry_of n its) long)
          ∙ sym (entries-append (length before) so_far.all its);
    }

-- ---- the whole

pub rows-entries : (start : ℕ) (all : List Stored)
    → sum_by (λ (e : Entry). e.rows) (entries_from start all) ≡ length (flat_map samples_of all)
rows-entries start [] = refl
rows-entries start (s ∷ all) =
    sum_by-cons (λ (e : Entry). e.rows) (entry_of start s)
    (entries_from (start + length (blocks_bytes s.blocks)) all)
    ∙ ap (λ n. length (samples_of s) + n)
    (rows-entries (start + length (blocks_bytes s.blocks)) all)
    ∙ sym (length-append (samples_of s) (flat_map samples_of all))

spelled_so :
    (all : List Stored) (written bytes : List ℕ) (said : List Entry) (sets : List (List Pair))
    (many rows : ℕ)
    → written ≡ front all → said ≡ entries_of all → sets ≡ sets_of all → many ≡ length all
    → rows ≡ length (flat_map samples_of all) → bytes ≡ with_sections written said sets many rows
    → bytes ≡ image all
unfolding image
spelled_so all written bytes said sets many rows f e s m r is =
    let whole : with_sections written said sets many rows
    ≡ with_sections (front all) (entries_of all) (sets_of all) (length all)
    (length (flat_map samples_of all)) =
    λ i. with_sections (f i) (e i) (s i) (m i) (r i) in
    is ∙ whole

-- the sections as they are written one by one
abbrev pub footer_with : ℕ → ℕ → ℕ → ℕ → ℕ → Footer
footer_with entries_at table_at postings_at series rows =
    record {
      entries_at = entries_at;
      table_at = table_at;
      postings_at = postings_at;
      series = series;
      rows = rows;
    }

pub sections_put :
    (before one two three after : List ℕ) (said : List Entry) (sets : List (List Pair))
    (m n p many rows : ℕ)
    → one ≡ before ++ flat_map entry_bytes said → two ≡ one ++ table_bytes sets → three ≡ two
    ++ postings_bytes (postings_of sets)
    → m ≡ length before → n ≡ length one → p ≡ length two → many ≡ length sets
    → after ≡ three ++ footer_bytes (footer_with m n p many rows)
    → after ≡ with_sections before said sets (length sets) rows
sections_put before one two three after said sets m n p many rows first second third at table_at
    postings_at count is =
    let es : List ℕ = flat_map entry_bytes said in
    let ts : List ℕ = table_bytes sets in
    let ps : List ℕ = postings_bytes (postings_of sets) in
    let all : three ≡ before ++ es ++ ts ++ ps = third
    ∙ ap (λ bs. bs ++ ps) (second ∙ ap (λ bs. bs ++ ts) first) in
    let long : length one ≡ length before + length es = ap length first ∙ length-append before es in
    let longer : length two ≡ length before + length es + length ts =
    ap length second ∙ length-append one ts ∙ ap (λ k. k + length ts) long in
    let there : n ≡ length before + length es = table_at ∙ long in
    let beyond : p ≡ length before + length es + length ts = postings_at ∙ longer in
    let whole : three
    ++ footer_bytes (footer_with m n p many rows)
    ≡ with_sections before said sets (length sets) rows =
    λ i. all i ++ footer_bytes (footer_with (at i) (there i) (beyond i) (count i) rows) in
    is ∙ whole

pub weaker : (part : Kept) (P : List Stored → Type 0) → Says part P → Says part (λ all. ⊤)
weaker part P says = record { all = says.all; said = says.said; that = tt }

pub made :
    (series : List Series) (before written bytes : List ℕ) (said : List Entry)
    (sets : List (List Pair)) (rows : ℕ)
    → CanBeStored series → before ≡ front_mark → ArePut series before written said
    → sets ≡ map (λ (s : Series). s.labels) series
    → AreSets sets → rows ≡ sum_by (λ (e : Entry). e.rows) said
    → bytes ≡ with_sections written said sets (length sets) rows
    → length bytes < 2 ^ 64 → rows < 2 ^ 64
    → Says (record { bytes = bytes; sets = sets; entries = said; rows = rows }) (AreCutUp series)
made series before written bytes said sets rows can front_is put labels are_sets counted is small
    few =
    let all : List Stored = put.all in
    let sets_are : sets ≡ sets_of all = labels ∙ sym (labels_cut series all put.cut) in
    let entries_are : said ≡ entries_of all = put.said
    ∙ ap (λ bs. entries_from (length bs) all) front_is in
    let rows_are : rows ≡ length (flat_map samples_of all) =
    counted ∙ ap (sum_by (λ (e : Entry). e.rows)) entries_are ∙ rows-entries 8 all in
    let many : length sets ≡ length all = ap length sets_are
    ∙ length-map all (λ (s : Stored). s.labels) in
    let blocks_are : written ≡ front all = put.bytes
    ∙ ap (λ bs. bs ++ flat_map series_bytes all) front_is in
    record {
      all = all;
      said = record {
        bytes = record {
          stored = record {
            some = omega (arith, can.some, many_cut series all put.cut);
            sets = subst AreSets sets_are are_sets;
            each = put.stored;
          };
          spelled =
              spelled_so all written bytes said sets (length sets) rows blocks_are entries_are
              sets_are many rows_are is;
          long = small;
          rows = subst (λ n. n < 2 ^ 64) rows_are few;
        };
        sets = sets_are;
        entries = entries_are;
        rows = rows_are;
      };
      that = put.cut;
    }
