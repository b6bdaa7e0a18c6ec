-- Laws of the series of rows, for those who store, merge or read them.
use Rattle.std.proofs.Common.{◌≡◌, ℕ, ◌<◌, Bool, true, false, cond, ◌||◌, List, [], ◌∷◌, ◌++◌, length, map, filter, flat_map, refl, sym, ap, ap₂, ◌∙◌, subst, true≢false, append-nil, arith, Ordering, Less, Equal, Greater, is_lt, is_le}
use Rattle.std.specs.List.{AllByRecursion, dedup, list_any}
use Rattle.std.proofs.lemmas.List.{map-append}
use Rattle.std.proofs.lemmas.List.Elements.{filter-append}
use Rattle.vm_base.specs.Sorted.{SameCounts, sorted}
use Rattle.vm_base.specs.Stamped.{is_in_order}
use Rattle.vm_base.specs.Thinned.{thinned}
use Rattle.vm_base.specs.declared.stamped.Stamped.{Stamped}
use Rattle.vm_base.proofs.SortedLaws.{sorted-same_counts, up-sorted}
use Rattle.vm_base.proofs.StampedLaws.{stamped_order}
use Rattle.vm_dedup.specs.Visible.{samples, stamped, visible}
use Rattle.vm_index.specs.Index.{SetsRise, is_set_below}
use Rattle.vm_index.proofs.DistinctLaws.{any_dedup, any_sorted, below_apart, up_dedup}
use Rattle.vm_index.proofs.ListLaws.{all_more, filter_all, filter_none}
use Rattle.vm_labels.specs.Labels.{is_in_label_order, label_cmp, label_eq}
use Rattle.vm_labels.specs.declared.pair.Pair.{Pair}
use Rattle.vm_labels.specs.declared.row.Row.{Row}
use Rattle.vm_labels.proofs.OrderLaws.{label_cmp-total, label_eq-Decides, label_order, labels_tied}
use Rattle.vm_series.specs.Series.{AreSeries, HasSample, HaveWhatIsSeen, IsByTime, row_of, rows_of, series_among, series_of, sets_among}
use Rattle.vm_series.specs.declared.series.Series.{Series}
use Rattle.vm_series.proofs.Lists.{all_of, any_none, none_any, all_sorted, all_once, all_map, all_mapped, all_turned, map_same, length-sorted, some_thinned, all_thinned, up_thinned, counts-map, counts-filter, sorted-append, dedup-append}

-- the label sets of rows, one by one
abbrev pub labels_of : List Row → List (List Pair)
labels_of = map (λ row. row.labels)

-- what holds of the label set of each row holds of each set among them
pub all_sets : (P : List Pair → Type 0) (rows : List Row) → AllByRecursion P (labels_of rows)
    → AllByRecursion P (sets_among rows)
all_sets P rows all =
    all_once P label_eq (sorted is_in_label_order (labels_of rows))
    (all_sorted P is_in_label_order (labels_of rows) all)

-- ---- label sets

-- the label sets among rows rise
pub sets_among-rise : (rows : List Row) → SetsRise (sets_among rows)
sets_among-rise rows =
    up_dedup label_cmp label_cmp-total label_eq label_eq-Decides labels_tied
    (sorted is_in_label_order (labels_of rows))
    (up-sorted is_in_label_order label_order (labels_of rows))

-- a set below another isn't the other
pub sets_apart : (a b : List Pair) → is_set_below a b ≡ true → label_eq b a ≡ false
sets_apart = below_apart label_cmp label_cmp-total label_eq label_eq-Decides labels_tied

pub sets_apart_too : (a b : List Pair) → is_set_below a b ≡ true → label_eq a b ≡ false
sets_apart_too a b below = go (label_eq a b) refl
  where
    go : (c : Bool) → label_eq a b ≡ c → label_eq a b ≡ false
    go true same =
        let is : b ≡ a = sym ((label_eq-Decides a b).0 same) in
        absurd (true≢false (sym ((label_eq-Decides b a).1 is) ∙ sets_apart a b below))
    go false apart = apart

sets_upto : (a b : List Pair) → is_set_below a b ≡ true → is_in_label_order a b ≡ true
sets_upto a b below = go (label_cmp a b) below
  where
    go : (o : Ordering) → is_lt o ≡ true → is_le o ≡ true
    go Less h = refl
    go Equal h = refl
    go Greater h = h

-- ---- what a reader may expect

labels_back : (d : ℕ) (rows : List Row) (sets : List (List Pair))
    → map (λ s. s.labels) (map (series_among d rows) sets) ≡ sets
labels_back d rows [] = refl
labels_back d rows (set ∷ sets) = ap (λ more. set ∷ more) (labels_back d rows sets)

-- the label sets of the series are those among the rows
pub labels-series_of : (d : ℕ) (rows : List Row)
    → map (λ (s : Series). s.labels) (series_of d rows) ≡ sets_among rows
labels-series_of d rows = labels_back d rows (sets_among rows)

pub sets_rise : (d : ℕ) (rows : List Row)
    → SetsRise (map (λ (s : Series). s.labels) (series_of d rows))
sets_rise d rows = subst SetsRise (sym (labels-series_of d rows)) (sets_among-rise rows)

-- the label set of each row has a sample
abbrev IsSeen : List Row → List Pair → Type 0
IsSeen rows set = 0 < length (samples set rows)

each_seen : (rows : List Row) → AllByRecursion (IsSeen rows) (labels_of rows)
each_seen [] = tt
each_seen (row ∷ rows) = (
  first ((label_eq-Decides row.labels row.labels).1 refl),
  all_more _ _ (λ set. go set (label_eq set row.labels)) (labels_of rows) (each_seen rows),
)
  where
    first : label_eq row.labels row.labels ≡ true → IsSeen (row ∷ rows) row.labels
    first same = rw same (omega arith)

    go : (set : List Pair) (b : Bool) → 0 < length (samples set rows)
        → 0 < length
        (map stamped
        (cond b (row ∷ filter (λ r. label_eq set r.labels) rows)
        (filter (λ r. label_eq set r.labels) rows)))
    go set true more = omega arith
    go set false more = more

-- no series is empty
pub each_some : (d : ℕ) (rows : List Row) → AllByRecursion HasSample (series_of d rows)
each_some d rows =
    all_map HasSample (series_among d rows) (sets_among rows)
    (all_more
    _ _ (λ set seen.
    some_thinned d (sorted is_in_order (samples set rows))
    (subst (λ n. 0 < n) (sym (length-sorted is_in_order (samples set rows))) seen))
    (sets_among rows) (all_sets (IsSeen rows) rows (each_seen rows)))

-- the samples of each series are in order
pub each_up : (d : ℕ) (rows : List Row) → AllByRecursion IsByTime (series_of d rows)
each_up d rows =
    all_map IsByTime (series_among d rows) (sets_among rows)
    (all_of _ (λ set.
    up_thinned d (sorted is_in_order (samples set rows))
    (up-sorted is_in_order stamped_order (samples set rows))) (sets_among rows))

pub are_series : (d : ℕ) (rows : List Row) → AreSeries (series_of d rows)
are_series d rows =
    record { rising = sets_rise d rows; some = each_some d rows; ordered = each_up d rows }

-- ---- what series keep

-- what holds of the label set of each row holds of that of each series
pub each_set_kept : (P : List Pair → Type 0) (d : ℕ) (rows : List Row)
    → AllByRecursion (λ (row : Row). P row.labels) rows
    → AllByRecursion (λ (s : Series). P s.labels) (series_of d rows)
each_set_kept P d rows all =
    all_map (λ (s : Series). P s.labels) (series_among d rows) (sets_among rows)
    (all_sets P rows (all_map P (λ (row : Row). row.labels) rows all))

module _ (P : List Pair → Stamped → Type 0) where
  own_kept : (set : List Pair) (rows : List Row)
      → AllByRecursion (λ row. P row.labels (stamped row)) rows
      → AllByRecursion (P set) (samples set rows)
  own_kept set [] all = tt
  own_kept set (row ∷ rows) all = go (label_eq set row.labels) refl (own_kept set rows all.1)
    where
      go : (b : Bool) → label_eq set row.labels ≡ b → AllByRecursion (P set) (samples set rows)
          → AllByRecursion (P set)
          (map stamped
          (cond b (row ∷ filter (λ r. label_eq set r.labels) rows)
          (filter (λ r. label_eq set r.labels) rows)))
      go true same more = (
        subst (λ l. P l (stamped row)) (sym ((label_eq-Decides set row.labels).0 same)) all.0,
        more,
      )
      go false apart more = more

  -- what holds of each row holds of each sample of a series, with its label set
  pub each_kept : (d : ℕ) (rows : List Row)
      → AllByRecursion (λ row. P row.labels (stamped row)) rows
      → AllByRecursion (λ (s : Series). AllByRecursion (P s.labels) s.samples) (series_of d rows)
  each_kept d rows all =
      all_map (λ (s : Series). AllByRecursion (P s.labels) s.samples) (series_among d rows)
      (sets_among rows)
      (all_of _ (λ set. all_thinned (P set) d (sorted is_in_order (samples set rows))
      (all_sorted (P set) is_in_order (samples set rows) (own_kept set rows all)))
      (sets_among rows))

-- ---- the same rows in another order

pub visible-same_counts : (d : ℕ) (set : List Pair) (rows others : List Row)
    → SameCounts rows others
    → visible d set rows ≡ visible d set others
visible-same_counts d set rows others same =
    ap (thinned d)
    (sorted-same_counts is_in_order stamped_order (samples set rows) (samples set others)
    (counts-map stamped (filter (λ r. label_eq set r.labels) rows)
    (filter (λ r. label_eq set r.labels) others)
    (counts-filter (λ r. label_eq set r.labels) rows others same)))

-- lists that hold each row equally often have the same series
pub series-same_counts : (d : ℕ) (rows others : List Row) → SameCounts rows others
    → series_of d rows ≡ series_of d others
series-same_counts d rows others same =
    ap (map (series_among d rows))
    (ap (dedup label_eq)
    (sorted-same_counts is_in_label_order label_order (labels_of rows) (labels_of others)
    (counts-map (λ row. row.labels) rows others same)))
    ∙ map_same (series_among d rows) (series_among d others) (sets_among others)
    (all_of _ (λ set.
    ap (λ s. record { labels = set; samples = s }) (visible-same_counts d set rows others same))
    (sets_among others))

-- ---- rows of which the label sets of some stand before those of the others

-- each of these label sets is below each of those
abbrev pub AllBelow : List (List Pair) → List (List Pair) → Type 0
AllBelow sets others =
    AllByRecursion (λ a. AllByRecursion (λ b. is_set_below a b ≡ true) others) sets

none_here : (set : List Pair) (rows : List Row)
    → AllByRecursion (λ l. label_eq set l ≡ false) (labels_of rows) → samples set rows ≡ []
none_here set rows apart =
    ap (map stamped)
    (filter_none (λ row. label_eq set row.labels) rows
    (all_mapped (λ l. label_eq set l ≡ false) (λ (row : Row). row.labels) rows apart))

samples-append : (set : List Pair) (xs ys : List Row) → samples set (xs ++ ys) ≡ samples set xs
    ++ samples set ys
samples-append set xs ys =
    ap (map stamped) (filter-append (λ row. label_eq set row.labels) xs ys)
    ∙ map-append stamped (filter (λ row. label_eq set row.labels) xs)
    (filter (λ row. label_eq set row.labels) ys)

module _ (d : ℕ) (xs ys : List Row) (below : AllBelow (labels_of xs) (labels_of ys)) where
  -- each set among the first is below each set of the others, and the other way round
  first_sets :
      AllByRecursion (λ a. AllByRecursion (λ b. is_set_below a b ≡ true) (labels_of ys))
      (sets_among xs)
  first_sets = all_sets (λ a. AllByRecursion (λ b. is_set_below a b ≡ true) (labels_of ys)) xs below

  other_sets :
      AllByRecursion (λ b. AllByRecursion (λ a. is_set_below a b ≡ true) (labels_of xs))
      (sets_among ys)
  other_sets =
      all_sets (λ b. AllByRecursion (λ a. is_set_below a b ≡ true) (labels_of xs)) ys
      (all_turned (λ a b. is_set_below a b ≡ true) (labels_of xs) (labels_of ys) below)

  sets-append : sets_among (xs ++ ys) ≡ sets_among xs ++ sets_among ys
  sets-append =
      ap (λ sets. dedup label_eq (sorted is_in_label_order sets))
      (map-append (λ row. row.labels) xs ys)
      ∙ ap (dedup label_eq)
      (sorted-append is_in_label_order label_order (labels_of xs) (labels_of ys)
      (all_more _ _ (λ a h. all_more _ _ (λ b lt. sets_upto a b lt) (labels_of ys) h) (labels_of xs)
      below))
      ∙ dedup-append label_eq (sorted is_in_label_order (labels_of xs))
      (sorted is_in_label_order (labels_of ys))
      (all_sorted _ is_in_label_order (labels_of xs)
      (all_more
      _ _ (λ a h.
      all_sorted _ is_in_label_order (labels_of ys)
      (all_more _ _ (λ b lt. sets_apart a b lt) (labels_of ys) h)) (labels_of xs) below))

  seen_first : (set : List Pair) → AllByRecursion (λ b. is_set_below set b ≡ true) (labels_of ys)
      → series_among d (xs ++ ys) set ≡ series_among d xs set
  seen_first set over =
      ap (λ s. record { labels = set; samples = thinned d (sorted is_in_order s) })
      (samples-append set xs ys
      ∙ ap (λ s. samples set xs ++ s)
      (none_here set ys (all_more _ _ (λ b lt. sets_apart_too set b lt) (labels_of ys) over))
      ∙ append-nil (samples set xs))

  seen_others : (set : List Pair) → AllByRecursion (λ a. is_set_below a set ≡ true) (labels_of xs)
      → series_among d (xs ++ ys) set ≡ series_among d ys set
  seen_others set under =
      ap (λ s. record { labels = set; samples = thinned d (sorted is_in_order s) })
      (samples-append set xs ys
      ∙ ap (λ s. s ++ samples set ys)
      (none_here set xs (all_more _ _ (λ a lt. sets_apart a set lt) (labels_of xs) under)))

  -- their series are those of the first rows and then those of the others
  pub series-append : series_of d (xs ++ ys) ≡ series_of d xs ++ series_of d ys
  series-append =
      ap (map (series_among d (xs ++ ys))) sets-append
      ∙ map-append (series_among d (xs ++ ys)) (sets_among xs) (sets_among ys)
      ∙ ap₂ ◌++◌
      (map_same (series_among d (xs ++ ys)) (series_among d xs) (sets_among xs)
      (all_more _ _ seen_first (sets_among xs) first_sets))
      (map_same (series_among d (xs ++ ys)) (series_among d ys) (sets_among ys)
      (all_more _ _ seen_others (sets_among ys) other_sets))

-- ---- the rows of series

pub samples_back : (labels : List Pair) (list : List Stamped)
    → map stamped (map (row_of labels) list) ≡ list
samples_back labels [] = refl
samples_back labels (s ∷ more) = ap (λ rest. s ∷ rest) (samples_back labels more)

own_row : (set labels : List Pair) (list : List Stamped)
    → samples set (map (row_of labels) list) ≡ cond (label_eq set labels) list []
own_row set labels list = go (label_eq set labels) refl
  where
    go : (b : Bool) → label_eq set labels ≡ b
        → samples set (map (row_of labels) list) ≡ cond b list []
    go true same =
        ap (map stamped)
        (filter_all (λ (row : Row). label_eq set row.labels) (map (row_of labels) list)
        (all_map (λ (row : Row). label_eq set row.labels ≡ true) (row_of labels) list
        (all_of _ (λ _. same) list)))
        ∙ samples_back labels list
    go false apart =
        ap (map stamped)
        (filter_none (λ (row : Row). label_eq set row.labels) (map (row_of labels) list)
        (all_map (λ (row : Row). label_eq set row.labels ≡ false) (row_of labels) list
        (all_of _ (λ _. apart) list)))

-- of a set among some that rise there is what is seen of it, and of another nothing
samples_among : (d : ℕ) (rows : List Row) (set : List Pair) (sets : List (List Pair))
    → SetsRise sets
    → samples set (flat_map rows_of (map (series_among d rows) sets))
    ≡ cond (list_any (label_eq set) sets) (visible d set rows) []
samples_among d rows set [] up = refl
samples_among d rows set (l ∷ ls) up =
    samples-append set (rows_of (series_among d rows l))
    (flat_map rows_of (map (series_among d rows) ls))
    ∙ ap₂ ◌++◌ (own_row set l (visible d l rows)) (samples_among d rows set ls up.1)
    ∙ go (label_eq set l) refl
  where
    go : (b : Bool) → label_eq set l ≡ b → cond b (visible d l rows) []
        ++ cond (list_any (label_eq set) ls) (visible d set rows) []
        ≡ cond (b || list_any (label_eq set) ls) (visible d set rows) []
    go true same =
        let is : set ≡ l = (label_eq-Decides set l).0 same in
        let none : list_any (label_eq set) ls ≡ false =
        none_any (label_eq set) ls
        (all_more _ _ (λ m lt. ap (λ s. label_eq s m) is ∙ sets_apart_too l m lt) ls up.0) in
        rw none (append-nil (visible d l rows) ∙ ap (λ s. visible d s rows) (sym is))
    go false apart = refl

-- of each label set, the series of rows have exactly what is seen of it
pub samples-series_of : (d : ℕ) (rows : List Row) → HaveWhatIsSeen d rows (series_of d rows)
samples-series_of d rows set =
    samples_among d rows set (sets_among rows) (sets_among-rise rows)
    ∙ go (list_any (label_eq set) (sets_among rows)) refl
  where
    among : list_any (label_eq set) (sets_among rows) ≡ list_any (label_eq set) (labels_of rows)
    among = any_dedup label_eq label_eq-Decides (label_eq set)
        (sorted is_in_label_order (labels_of rows))
        ∙ any_sorted is_in_label_order (label_eq set) (labels_of rows)

    go : (b : Bool) → list_any (label_eq set) (sets_among rows) ≡ b
        → cond b (visible d set rows) [] ≡ visible d set rows
    go true some = refl
    go false none =
        sym (ap (λ s. thinned d (sorted is_in_order s))
        (none_here set rows (any_none (label_eq set) (labels_of rows) (sym among ∙ none))))
