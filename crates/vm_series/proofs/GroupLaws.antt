-- Pieces in label order: those at the front that share a label set make one series, and the others
-- come after it.
use Rattle.std.proofs.Common.{◌≡◌, ℕ, suc, ◌+◌, ◌<◌, Bool, true, false, cond, List, [], ◌∷◌, ◌++◌, length, get_or, take, drop, map, flat_map, append_assoc, refl, sym, ap, ap₂, ◌∙◌, subst, arith, add-one, IsPermutation, IsSortedBy, Ordering, Less, Equal, Greater, is_lt, is_le, true≢false, take-append-drop}
use Rattle.std.specs.List.{AllByRecursion, prefix_len}
use Rattle.std.specs.Ordering.{ordering_reverse}
use Rattle.std.proofs.lemmas.List.{map-append, drop-drop}
use Rattle.std.proofs.lemmas.Grind.{flat_map-append}
use Rattle.vm_base.specs.Sorted.{sorted}
use Rattle.vm_base.specs.Stamped.{is_in_order}
use Rattle.vm_base.specs.Thinned.{thinned}
use Rattle.vm_dedup.specs.Visible.{samples, stamped}
use Rattle.vm_index.specs.Index.{is_set_below}
use Rattle.vm_index.proofs.DistinctLaws.{below_upto, strictly}
use Rattle.vm_index.proofs.ListLaws.{all_more, filter_all, up_drop}
use Rattle.vm_labels.specs.Labels.{is_in_label_order, label_cmp, label_eq}
use Rattle.vm_labels.specs.declared.pair.Pair.{Pair}
use Rattle.vm_labels.specs.declared.row.Row.{Row}
use Rattle.vm_labels.proofs.OrderLaws.{label_cmp-total, label_eq-Decides, label_order, labels_tied}
use Rattle.vm_series.specs.Series.{row_of, rows_of_piece, series_among, series_of, sets_among}
use Rattle.vm_series.specs.inner.Pieces.{InLabelOrder, OfOneSet, samples_of}
use Rattle.vm_series.specs.declared.series.Piece.{Piece}
use Rattle.vm_series.specs.declared.series.Series.{Series}
use Rattle.vm_series.proofs.Lists.{all_flat_map, all_map, all_of, all_sorted, dedup_alike, counts-flat_map, length-sorted}
use Rattle.vm_series.proofs.SeriesLaws.{AllBelow, labels_of, samples_back, series-append, series-same_counts}

abbrev rows_of_all : List Piece → List Row
rows_of_all = flat_map rows_of_piece

-- ---- what a sort by labels gives

not_greater : (o : Ordering) → is_lt (ordering_reverse o) ≡ false → is_le o ≡ true
not_greater Less h = refl
not_greater Equal h = refl
not_greater Greater h = absurd (true≢false h)

pub in_label_order : (pieces : List Piece)
    → IsSortedBy (λ x y. is_lt (label_cmp x.labels.now y.labels.now)) pieces → InLabelOrder pieces
in_label_order [] rises = tt
in_label_order (x ∷ xs) rises =
    let tail : IsSortedBy (λ a b. is_lt (label_cmp a.labels.now b.labels.now)) xs = λ k d p q.
    rw add-one (rw add-one at (rises (suc k) d (omega arith) (omega arith))) in
    let up = in_label_order xs tail in
    (before_all xs rises up, up)
  where
    before_all : (ys : List Piece)
        → IsSortedBy (λ a b. is_lt (label_cmp a.labels.now b.labels.now)) (x ∷ ys) → InLabelOrder ys
        → AllByRecursion (λ y. is_in_label_order x.labels.now y.labels.now ≡ true) ys
    before_all [] rises up = tt
    before_all (y ∷ ys) rises up =
        let first : is_in_label_order x.labels.now y.labels.now ≡ true =
        not_greater (label_cmp x.labels.now y.labels.now)
        (ap is_lt (sym (label_cmp-total.antisymm y.labels.now x.labels.now))
        ∙ rises 0 x (omega arith) (omega arith)) in (
          first,
          all_more
              _ _ (λ z h. label_order.chain x.labels.now y.labels.now z.labels.now first h) ys up.0,
        )

-- pieces in another order have the same series
pub series-permuted : (d : ℕ) (pieces others : List Piece) → IsPermutation pieces others
    → series_of d (rows_of_all others) ≡ series_of d (rows_of_all pieces)
series-permuted d pieces others same =
    sym (series-same_counts d (rows_of_all pieces) (rows_of_all others)
    (counts-flat_map rows_of_piece pieces others same))

-- ---- the first group

-- how many pieces at the front are of a label set
abbrev group_len : List Pair → List Piece → ℕ
group_len labels = prefix_len (λ piece. label_eq piece.labels.now labels)

pub group_alike : (labels : List Pair) (pieces : List Piece)
    → OfOneSet labels (take (group_len labels pieces) pieces)
group_alike labels [] = tt
group_alike labels (p ∷ ps) = go (label_eq p.labels.now labels) refl (group_alike labels ps)
  where
    go : (b : Bool) → label_eq p.labels.now labels ≡ b
        → OfOneSet labels (take (group_len labels ps) ps)
        → OfOneSet labels (take (cond b (1 + group_len labels ps) 0) (p ∷ ps))
    go true same more =
        let next : 1 + group_len labels ps ≡ suc (group_len labels ps) = omega arith in
        rw next ((label_eq-Decides p.labels.now labels).0 same, more)
    go false apart more = tt

strictly_below : (a b : List Pair) → is_in_label_order a b ≡ true → label_eq b a ≡ false
    → is_set_below a b ≡ true
strictly_below = strictly label_cmp label_cmp-total label_eq label_eq-Decides labels_tied

below_and_upto : (a b c : List Pair) → is_set_below a b ≡ true → is_in_label_order b c ≡ true
    → is_set_below a c ≡ true
below_and_upto = below_upto label_cmp label_cmp-total label_eq label_eq-Decides labels_tied

-- the pieces after a group are of sets above it
rest_above : (labels : List Pair) (pieces : List Piece) → InLabelOrder pieces
    → AllByRecursion (λ piece. is_in_label_order labels piece.labels.now ≡ true) pieces
    → AllByRecursion (λ piece. is_set_below labels piece.labels.now ≡ true)
    (drop (group_len labels pieces) pieces)
rest_above labels [] up all = tt
rest_above labels (p ∷ ps) up all =
    go (label_eq p.labels.now labels) refl (rest_above labels ps up.1 all.1)
  where
    go : (b : Bool) → label_eq p.labels.now labels ≡ b
        → AllByRecursion (λ piece. is_set_below labels piece.labels.now ≡ true)
        (drop (group_len labels ps) ps)
        → AllByRecursion (λ piece. is_set_below labels piece.labels.now ≡ true)
        (drop (cond b (1 + group_len labels ps) 0) (p ∷ ps))
    go true same more =
        let next : 1 + group_len labels ps ≡ suc (group_len labels ps) = omega arith in
        rw next more
    go false apart more =
        let lt : is_set_below labels p.labels.now ≡ true =
        strictly_below labels p.labels.now all.0 apart in
        (lt, all_more _ _ (λ q h. below_and_upto labels p.labels.now q.labels.now lt h) ps up.0)

-- what holds of each piece's label set holds of that of each row
row_labels : (P : List Pair → Type 0) (pieces : List Piece)
    → AllByRecursion (λ piece. P piece.labels.now) pieces
    → AllByRecursion P (labels_of (rows_of_all pieces))
row_labels P pieces all =
    all_map P (λ (row : Row). row.labels) (rows_of_all pieces)
    (all_flat_map (λ (row : Row). P row.labels) rows_of_piece pieces
    (all_more
    _ _ (λ (piece : Piece) h.
    all_map (λ (row : Row). P row.labels) (row_of piece.labels.now) piece.samples.now
    (all_of _ (λ _. h) piece.samples.now)) pieces all))

-- the rows of a group stand before those after it
group_below : (labels : List Pair) (group rest : List Piece) → OfOneSet labels group
    → AllByRecursion (λ piece. is_set_below labels piece.labels.now ≡ true) rest
    → AllBelow (labels_of (rows_of_all group)) (labels_of (rows_of_all rest))
group_below labels group rest alike above =
    row_labels (λ a. AllByRecursion (λ b. is_set_below a b ≡ true) (labels_of (rows_of_all rest)))
    group
    (all_more
    _ _ (λ (piece : Piece) is.
    subst (λ a. AllByRecursion (λ b. is_set_below a b ≡ true) (labels_of (rows_of_all rest)))
    (sym is)
    (row_labels (λ b. is_set_below labels b ≡ true) rest above)) group alike)

-- ---- one group of a loop

-- of the first of some pieces at least one is at the front
pub group_some : (piece : Piece) (pieces : List Piece) → 0 < length pieces
    → piece ≡ get_or pieces 0 piece
    → 0 < group_len piece.labels.now pieces
group_some piece [] some is = absurd (omega arith)
group_some piece (p ∷ ps) some is =
    let same : label_eq p.labels.now piece.labels.now ≡ true =
    (label_eq-Decides p.labels.now piece.labels.now).1 (ap (λ q. q.labels.now) (sym is)) in
    rw same (omega arith)

-- it may stand before all of them
first_upto : (piece : Piece) (pieces : List Piece) → 0 < length pieces
    → piece ≡ get_or pieces 0 piece → InLabelOrder pieces
    → AllByRecursion (λ other. is_in_label_order piece.labels.now other.labels.now ≡ true) pieces
first_upto piece [] some is up = absurd (omega arith)
first_upto piece (p ∷ ps) some is up =
    subst (λ q.
    AllByRecursion (λ other. is_in_label_order q.labels.now other.labels.now ≡ true) (p ∷ ps))
    (sym is)
    (label_order.same p.labels.now, up.0)

up_rest : (k : ℕ) (pieces : List Piece) → InLabelOrder pieces → InLabelOrder (drop k pieces)
up_rest k pieces up = up_drop (λ a b. is_in_label_order a.labels.now b.labels.now) k pieces up

-- the series of a group come before those of the pieces after it
group_series : (d : ℕ) (piece : Piece) (pieces : List Piece) → 0 < length pieces
    → piece ≡ get_or pieces 0 piece → InLabelOrder pieces
    → series_of d (rows_of_all pieces)
    ≡ series_of d (rows_of_all (take (group_len piece.labels.now pieces) pieces))
    ++ series_of d (rows_of_all (drop (group_len piece.labels.now pieces) pieces))
group_series d piece pieces some is up =
    let k = group_len piece.labels.now pieces in
    ap (λ ps. series_of d (rows_of_all ps)) (sym (take-append-drop k pieces))
    ∙ ap (series_of d) (flat_map-append rows_of_piece (take k pieces) (drop k pieces))
    ∙ series-append d (rows_of_all (take k pieces)) (rows_of_all (drop k pieces))
    (group_below piece.labels.now (take k pieces) (drop k pieces)
    (group_alike piece.labels.now pieces)
    (rest_above piece.labels.now pieces up (first_upto piece pieces some is up)))

pub group_more :
    (d : ℕ) (pieces rest group : List Piece) (at len : ℕ) (piece : Piece)
    (done more whole : List Series)
    → rest ≡ drop at pieces → group ≡ take len rest → 0 < length rest → piece ≡ get_or rest 0 piece
    → len ≡ group_len piece.labels.now rest → InLabelOrder pieces
    → more ≡ done ++ series_of d (rows_of_all group)
    → done ++ series_of d (rows_of_all (drop at pieces)) ≡ whole → more
    ++ series_of d (rows_of_all (drop (at + len) pieces)) ≡ whole
group_more d pieces rest group at len piece done more whole behind front some is long up put
    so_far =
    let k = group_len piece.labels.now rest in
    ap (λ s. s ++ series_of d (rows_of_all (drop (at + len) pieces))) put
    ∙ append_assoc done (series_of d (rows_of_all group))
    (series_of d (rows_of_all (drop (at + len) pieces)))
    ∙ ap (λ s. done ++ s)
    (ap₂ (λ ps qs. series_of d (rows_of_all ps) ++ series_of d (rows_of_all qs))
    (front ∙ ap (λ n. take n rest) long)
    (sym (drop-drop len at pieces) ∙ ap (drop len) (sym behind) ∙ ap (λ n. drop n rest) long)
    ∙ sym (group_series d piece rest some is
    (subst InLabelOrder (sym behind) (up_rest at pieces up)))
    ∙ ap (λ ps. series_of d (rows_of_all ps)) behind)
    ∙ so_far

-- ---- the series of a group

-- the samples of the rows are those of the pieces
all_samples : (pieces : List Piece) → map stamped (rows_of_all pieces) ≡ samples_of pieces
all_samples [] = refl
all_samples (p ∷ ps) =
    map-append stamped (rows_of_piece p) (rows_of_all ps)
    ∙ ap₂ ◌++◌ (samples_back p.labels.now p.samples.now) (all_samples ps)

-- how many rows there are
length-rows : (pieces : List Piece) → length (rows_of_all pieces) ≡ length (samples_of pieces)
length-rows pieces = sym (long (rows_of_all pieces)) ∙ ap length (all_samples pieces)
  where
    long : (rows : List Row) → length (map stamped rows) ≡ length rows
    long [] = refl
    long (row ∷ rows) = ap suc (long rows)

own_samples : (labels : List Pair) (group : List Piece) → OfOneSet labels group
    → samples labels (rows_of_all group) ≡ samples_of group
own_samples labels group alike =
    ap (map stamped)
    (filter_all (λ row. label_eq labels row.labels) (rows_of_all group)
    (own (rows_of_all group) (row_labels (λ l. l ≡ labels) group alike)))
    ∙ all_samples group
  where
    own : (rows : List Row) → AllByRecursion (λ l. l ≡ labels) (labels_of rows)
        → AllByRecursion (λ row. label_eq labels row.labels ≡ true) rows
    own [] all = tt
    own (row ∷ rows) all = ((label_eq-Decides labels row.labels).1 (sym all.0), own rows all.1)

-- a group with a sample is one series
pub series-one : (d : ℕ) (labels : List Pair) (group : List Piece) → OfOneSet labels group
    → 0 < length (samples_of group)
    → series_of d (rows_of_all group)
    ≡ record { labels = labels; samples = thinned d (sorted is_in_order (samples_of group)) } ∷ []
series-one d labels group alike some =
    let rows = rows_of_all group in
    let many : 0 < length (sorted is_in_label_order (labels_of rows)) =
    subst (λ n. 0 < n)
    (sym (length-sorted is_in_label_order (labels_of rows) ∙ long rows ∙ length-rows group))
    some in
    let sets : sets_among rows ≡ labels ∷ [] =
    dedup_alike label_eq label_eq-Decides labels (sorted is_in_label_order (labels_of rows)) many
    (all_sorted (λ l. l ≡ labels) is_in_label_order (labels_of rows)
    (row_labels (λ l. l ≡ labels) group alike)) in
    ap (map (series_among d rows)) sets
    ∙ ap (λ s. record { labels = labels; samples = thinned d (sorted is_in_order s) } ∷ [])
    (own_samples labels group alike)
  where
    long : (rows : List Row) → length (labels_of rows) ≡ length rows
    long [] = refl
    long (row ∷ rows) = ap suc (long rows)

-- a group with no sample is none
pub series-none : (d : ℕ) (group : List Piece) → length (samples_of group) ≡ 0
    → series_of d (rows_of_all group) ≡ []
series-none d group none = go (rows_of_all group) (length-rows group ∙ none)
  where
    go : (rows : List Row) → length rows ≡ 0 → series_of d rows ≡ []
    go [] h = refl
    go (row ∷ rows) h = absurd (omega arith)
