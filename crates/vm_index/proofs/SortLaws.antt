-- The entries of all sets, sorted: the pairs of one kind stand together, and their ordinals rise.
use Rattle.std.proofs.Common.{◌≡◌, ℕ, suc, ◌+◌, ◌<◌, ◌≤◌, Bool, true, false, cond, ◌||◌, List, [], ◌∷◌, ◌++◌, drop, length, get_or, filter, map, flat_map, append_assoc, refl, sym, ap, ap₂, ◌∙◌, subst, arith, true≢false, IsPermutation, IsSortedBy, add-one, count_by}
use Rattle.std.specs.Prelude.{nat_le, bytes_eq}
use Rattle.std.specs.List.{AllByRecursion, list_any, list_all, dedup}
use Rattle.std.specs.Ordering.{is_lt, is_le, nat_cmp, on, then_cmp, ordering_then, ordering_reverse}
use Rattle.std.specs.Cmp.{IsTotalOrder}
use Rattle.std.specs.declared.cmp.Ordering.{Ordering}
use Rattle.std.specs.declared.cmp.Ordering.TheVariants.{Less, Equal, Greater}
use Rattle.std.proofs.lemmas.Bool.{le-leb}
use Rattle.std.proofs.lemmas.Bool.Decides.{nat_tests}
use Rattle.std.proofs.lemmas.Cmp.{nat_cmp_total, then_total, on_total, tied_itself}
use Rattle.std.proofs.lemmas.List.{map-append}
use Rattle.std.proofs.lemmas.List.Elements.{filter-append}
use Rattle.std.proofs.lemmas.List.Sorted.{IsPermutation-map}
use Rattle.vm_base.specs.Sorted.{IsUp, IsOrder, SameCounts, put_in, sorted}
use Rattle.vm_base.proofs.SortedLaws.{order_from_cmp, up-sorted, counts-sorted, sorted_from_up, sorted-up, counts_from_permutation, count-cons}
use Rattle.vm_labels.specs.Labels.{IsLabels, names_rise, is_below, pair_cmp, pair_eq, is_in_pair_order}
use Rattle.vm_labels.specs.declared.pair.Pair.{Pair}
use Rattle.vm_labels.proofs.OrderLaws.{pair_eq-Decides, pairs_tied, pair_order, pair_cmp-total, both_true}
use Rattle.vm_labels.proofs.BuildLaws.{below_apart}
use Rattle.vm_index.specs.declared.posting.Posting.{Posting}
use Rattle.vm_index.specs.Index.{places_from, ordinals_of, posting_of, postings_of}
use Rattle.vm_index.specs.inner.Entries.{entries_from, gathered}
use Rattle.vm_index.proofs.ListLaws.{all_more, all_append, all_filter, all_own, filter_none, up_filter, at_item}
use Rattle.vm_index.proofs.GatherLaws.{pairs_gathered, right, Right, ordinals_among, InPairOrder}

abbrev Seen : Type 0
Seen = Pair × ℕ

-- ---- a filter of a sorted list

module _ {X : Type 0} (le : X → X → Bool) (order : IsOrder le) where
  put_first : (x : X) (ys : List X) → AllByRecursion (λ y. le x y ≡ true) ys
      → put_in le x ys ≡ x ∷ ys
  put_first x [] all = refl
  put_first x (y ∷ ys) all = rw (all.0)

  filter-put_in : (p : X → Bool) (x : X) (ys : List X) → IsUp le ys
      → filter p (put_in le x ys) ≡ cond (p x) (put_in le x (filter p ys)) (filter p ys)
  filter-put_in p x [] up = refl
  filter-put_in p x (y ∷ ys) up = go (le x y) (p x) (p y) refl refl refl (filter-put_in p x ys up.1)
    where
      go : (b c d : Bool) → le x y ≡ b → p x ≡ c → p y ≡ d
          → filter p (put_in le x ys) ≡ cond (p x) (put_in le x (filter p ys)) (filter p ys)
          → filter p (cond b (x ∷ y ∷ ys) (y ∷ put_in le x ys))
          ≡ cond c (put_in le x (cond d (y ∷ filter p ys) (filter p ys)))
          (cond d (y ∷ filter p ys) (filter p ys))
      go true true true before q r more = rw (q, r, before)
      go true true false before q r more =
          let all : AllByRecursion (λ z. le x z ≡ true) (filter p ys) =
          all_filter _ p ys (all_more _ _ (λ z h. order.chain x y z before h) ys up.0) in
          rw (q, r) (sym (put_first x (filter p ys) all))
      go true false true before q r more = rw (q, r)
      go true false false before q r more = rw (q, r)
      go false true true after q r more = rw (r, after) (ap (λ zs. y ∷ zs) (more ∙ rw q))
      go false true false after q r more = rw r (more ∙ rw q)
      go false false true after q r more = rw r (ap (λ zs. y ∷ zs) (more ∙ rw q))
      go false false false after q r more = rw r (more ∙ rw q)

  filter-sorted : (p : X → Bool) (xs : List X) → filter p (sorted le xs) ≡ sorted le (filter p xs)
  filter-sorted p [] = refl
  filter-sorted p (x ∷ xs) =
      filter-put_in p x (sorted le xs) (up-sorted le order xs)
      ∙ ap (λ ys. cond (p x) (put_in le x ys) ys) (filter-sorted p xs)
      ∙ go (p x)
    where
      go : (b : Bool)
          → cond b (put_in le x (sorted le (filter p xs))) (sorted le (filter p xs))
          ≡ sorted le (cond b (x ∷ filter p xs) (filter p xs))
      go true = refl
      go false = refl

-- ---- the order of entries

abbrev pub seen_cmp : Seen → Seen → Ordering
seen_cmp = then_cmp (on (λ e. e.0) pair_cmp) (on (λ e. e.1) nat_cmp)

abbrev pub le_seen : Seen → Seen → Bool
le_seen a b = is_le (seen_cmp a b)

seen_cmp-total : IsTotalOrder seen_cmp
seen_cmp-total = then_total (on_total (λ e. e.0) pair_cmp-total) (on_total (λ e. e.1) nat_cmp_total)

seen_tied : (a b : Seen) → seen_cmp a b ≡ Equal → a ≡ b
seen_tied a b tie = go (pair_cmp a.0 b.0) refl tie
  where
    level : (m n : ℕ) → nat_cmp m n ≡ Equal → m ≡ n
    level m n h = grind (arith, nat_tests)

    go : (o : Ordering) → pair_cmp a.0 b.0 ≡ o → ordering_then o (nat_cmp a.1 b.1) ≡ Equal → a ≡ b
    go Less is h = absurd cc
    go Equal is h = ap₂ (λ p n. (p, n)) (pairs_tied a.0 b.0 is) (level a.1 b.1 h)
    go Greater is h = absurd cc

pub seen_order : IsOrder le_seen
seen_order = order_from_cmp seen_cmp seen_cmp-total seen_tied

le_first : (a b : Seen) → le_seen a b ≡ true → is_in_pair_order a.0 b.0 ≡ true
le_first a b h = go (pair_cmp a.0 b.0) h
  where
    go : (o : Ordering) → is_le (ordering_then o (nat_cmp a.1 b.1)) ≡ true → is_le o ≡ true
    go Less h = refl
    go Equal h = refl
    go Greater h = h

pub up_pairs : (es : List Seen) → IsUp le_seen es → InPairOrder es
up_pairs [] up = tt
up_pairs (e ∷ es) up = (all_more _ _ (λ g h. le_first e g h) es up.0, up_pairs es up.1)

not_greater : (o : Ordering) → is_lt (ordering_reverse o) ≡ false → is_le o ≡ true
not_greater Less h = refl
not_greater Equal h = refl
not_greater Greater h = absurd (true≢false h)

-- what a sort of things that are seen so ensures
module _ {E : Type 0} (f : E → Pair × ℕ) where
  up_sort : (xs : List E) → IsSortedBy (λ x y. is_lt (seen_cmp (f x) (f y))) xs
      → IsUp le_seen (map f xs)
  up_sort [] rises = tt
  up_sort (x ∷ xs) rises =
      let tail : IsSortedBy (λ a b. is_lt (seen_cmp (f a) (f b))) xs = λ k d p q.
      rw add-one (rw add-one at (rises (suc k) d (omega arith) (omega arith))) in
      let up = up_sort xs tail in
      (before_all xs rises up, up)
    where
      before_all : (ys : List E) → IsSortedBy (λ a b. is_lt (seen_cmp (f a) (f b))) (x ∷ ys)
          → IsUp le_seen (map f ys)
          → AllByRecursion (λ g. le_seen (f x) g ≡ true) (map f ys)
      before_all [] rises up = tt
      before_all (y ∷ ys) rises up =
          let first : le_seen (f x) (f y) ≡ true =
          not_greater (seen_cmp (f x) (f y))
          (ap is_lt (sym (seen_cmp-total.antisymm (f y) (f x)))
          ∙ rises 0 x (omega arith) (omega arith)) in
          (first, all_more _ _ (λ g h. seen_order.chain (f x) (f y) g first h) (map f ys) up.0)

  pub sorted_seen : (xs ys : List E) → IsPermutation xs ys
      → IsSortedBy (λ x y. is_lt (seen_cmp (f x) (f y))) ys → map f ys ≡ sorted le_seen (map f xs)
  sorted_seen xs ys same rises =
      sorted_from_up le_seen seen_order (map f xs) (map f ys) (up_sort ys rises)
      (counts_from_permutation (map f xs) (map f ys) (IsPermutation-map f xs ys same))

-- ---- the entries of the sets

-- of one set: no pair stands there twice
one_set : (p : Pair) (at : ℕ) (set : List Pair) → names_rise set ≡ true
    → ordinals_among (map (λ q. (q, at)) set) p ≡ cond (list_any (pair_eq p) set) (at ∷ []) []
one_set p at [] rises = refl
one_set p at (q ∷ qs) rises =
    go (pair_eq p q) refl
    (one_set p at qs
    (both_true (list_all (λ r. is_below q.name r.name) qs) (names_rise qs) rises).1)
  where
    others : (rs : List Pair) → list_all (λ r. is_below q.name r.name) rs ≡ true → p ≡ q
        → AllByRecursion (λ (e : Seen). pair_eq p e.0 ≡ false) (map (λ r. (r, at)) rs)
    others [] all is = tt
    others (r ∷ rs) all is =
        let both =
        both_true (is_below q.name r.name) (list_all (λ r. is_below q.name r.name) rs) all in
        let apart : bytes_eq q.name r.name ≡ false = below_apart q.name r.name both.0 in
        (subst (λ x. pair_eq x r ≡ false) (sym is) (rw apart), others rs both.1 is)

    go : (b : Bool) → pair_eq p q ≡ b
        → ordinals_among (map (λ r. (r, at)) qs) p ≡ cond (list_any (pair_eq p) qs) (at ∷ []) []
        → map (λ (e : Seen). e.1)
        (cond b ((q, at) ∷ filter (λ e. pair_eq p e.0) (map (λ r. (r, at)) qs))
        (filter (λ e. pair_eq p e.0) (map (λ r. (r, at)) qs)))
        ≡ cond (b || list_any (pair_eq p) qs) (at ∷ []) []
    go true same more =
        ap (λ es. at ∷ map (λ e. e.1) es)
        (filter_none (λ e. pair_eq p e.0) (map (λ r. (r, at)) qs)
        (others qs (both_true (list_all (λ r. is_below q.name r.name) qs) (names_rise qs) rises).0
        ((pair_eq-Decides p q).0 same)))
    go false apart more = more

pub ordinals_are : (p : Pair) (at : ℕ) (sets : List (List Pair)) → AllByRecursion IsLabels sets
    → ordinals_among (entries_from at sets) p ≡ places_from at (list_any (pair_eq p)) sets
ordinals_are p at [] all = refl
ordinals_are p at (set ∷ sets) all =
    ap (map (λ (e : Seen). e.1))
    (filter-append (λ e. pair_eq p e.0) (map (λ q. (q, at)) set) (entries_from (suc at) sets))
    ∙ map-append (λ e. e.1) (filter (λ e. pair_eq p e.0) (map (λ q. (q, at)) set))
    (filter (λ e. pair_eq p e.0) (entries_from (suc at) sets))
    ∙ ap₂ ◌++◌ (one_set p at set (all.0).rising) (ordinals_are p (suc at) sets all.1)
    ∙ go (list_any (pair_eq p) set)
  where
    go : (b : Bool) → cond b (at ∷ []) [] ++ places_from (suc at) (list_any (pair_eq p)) sets
        ≡ cond b (at ∷ places_from (suc at) (list_any (pair_eq p)) sets)
        (places_from (suc at) (list_any (pair_eq p)) sets)
    go true = refl
    go false = refl

firsts_are : (at : ℕ) (sets : List (List Pair))
    → map (λ (e : Seen). e.0) (entries_from at sets) ≡ flat_map (λ set. set) sets
firsts_are at [] = refl
firsts_are at (set ∷ sets) =
    map-append (λ e. e.0) (map (λ p. (p, at)) set) (entries_from (suc at) sets)
    ∙ ap₂ ◌++◌ (again set) (firsts_are (suc at) sets)
  where
    again : (ps : List Pair) → map (λ (e : Seen). e.0) (map (λ p. (p, at)) ps) ≡ ps
    again [] = refl
    again (p ∷ ps) = ap (λ qs. p ∷ qs) (again ps)

-- the ordinals never fall along the entries
abbrev from_number : ℕ → List Seen → Type 0
from_number at = AllByRecursion (λ e. nat_le at e.1 ≡ true)

all_at : (m at : ℕ) (ps : List Pair) → m ≤ at → from_number m (map (λ p. (p, at)) ps)
all_at m at [] h = tt
all_at m at (p ∷ ps) h = (le-leb m at h, all_at m at ps h)

all_from : (m at : ℕ) (sets : List (List Pair)) → m ≤ at → from_number m (entries_from at sets)
all_from m at [] h = tt
all_from m at (set ∷ sets) h =
    all_append _ (map (λ p. (p, at)) set) (entries_from (suc at) sets) (all_at m at set h)
    (all_from m (suc at) sets (omega arith))

up_numbers : (at : ℕ) (sets : List (List Pair))
    → IsUp (λ a b. nat_le a.1 b.1) (entries_from at sets)
up_numbers at [] = tt
up_numbers at (set ∷ sets) = go set (up_numbers (suc at) sets)
  where
    go : (ps : List Pair) → IsUp (λ a b. nat_le a.1 b.1) (entries_from (suc at) sets)
        → IsUp (λ a b. nat_le a.1 b.1) (map (λ p. (p, at)) ps ++ entries_from (suc at) sets)
    go [] up = up
    go (p ∷ ps) up = (
      all_append _ (map (λ q. (q, at)) ps) (entries_from (suc at) sets)
          (all_at at at ps (omega arith)) (all_from at (suc at) sets (omega arith)),
      go ps up,
    )

-- entries of one pair whose ordinals don't fall are in order
up_alike : (p : Pair) (es : List Seen) → AllByRecursion (λ (e : Seen). pair_eq p e.0 ≡ true) es
    → IsUp (λ a b. nat_le a.1 b.1) es → IsUp le_seen es
up_alike p [] all up = tt
up_alike p (e ∷ es) all up = (each es all.1 up.0, up_alike p es all.1 up.1)
  where
    level : (m n : ℕ) → nat_le m n ≡ true → is_le (nat_cmp m n) ≡ true
    level m n h = grind (arith, nat_tests)

    each : (gs : List Seen) → AllByRecursion (λ g. pair_eq p g.0 ≡ true) gs
        → AllByRecursion (λ g. nat_le e.1 g.1 ≡ true) gs
        → AllByRecursion (λ g. le_seen e g ≡ true) gs
    each [] alike le = tt
    each (g ∷ gs) alike le =
        let same : e.0 ≡ g.0 = sym ((pair_eq-Decides p e.0).0 all.0)
        ∙ (pair_eq-Decides p g.0).0 alike.0 in
        let tie : pair_cmp e.0 g.0 ≡ Equal =
        subst (λ q. pair_cmp e.0 q ≡ Equal) same (tied_itself pair_cmp-total e.0) in
        (rw tie (level e.1 g.1 le.0), each gs alike.1 le.1)

-- sorted, the entries of a pair still have the ordinals of the sets that have it
pub ordinals_sorted : (p : Pair) (sets : List (List Pair)) → AllByRecursion IsLabels sets
    → ordinals_among (sorted le_seen (entries_from 0 sets)) p ≡ ordinals_of sets p
ordinals_sorted p sets all =
    let es = entries_from 0 sets in
    let mine : IsUp le_seen (filter (λ e. pair_eq p e.0) es) =
    up_alike p (filter (λ e. pair_eq p e.0) es) (all_own (λ e. pair_eq p e.0) es)
    (up_filter (λ a b. nat_le a.1 b.1) (λ e. pair_eq p e.0) es (up_numbers 0 sets)) in
    ap (map (λ (e : Seen). e.1))
    (filter-sorted le_seen seen_order (λ e. pair_eq p e.0) es
    ∙ sorted-up le_seen seen_order (filter (λ e. pair_eq p e.0) es) mine)
    ∙ ordinals_are p 0 sets all

-- sorted, the pairs are those of all sets in order
count-map : {X Y : Type 0} (f : X → Y) (t : Y → Bool) (xs : List X)
    → count_by t (map f xs) ≡ count_by (λ x. t (f x)) xs
count-map f t [] = refl
count-map f t (x ∷ xs) = count-cons t (f x) (map f xs)
    ∙ ap (λ n. cond (t (f x)) 1 0 + n) (count-map f t xs) ∙ sym (count-cons (λ y. t (f y)) x xs)

up_map : (es : List Seen) → InPairOrder es → IsUp is_in_pair_order (map (λ (e : Seen). e.0) es)
up_map [] up = tt
up_map (e ∷ es) up = (each es up.0, up_map es up.1)
  where
    each : (gs : List Seen) → AllByRecursion (λ (g : Seen). is_in_pair_order e.0 g.0 ≡ true) gs
        → AllByRecursion (λ q. is_in_pair_order e.0 q ≡ true) (map (λ (g : Seen). g.0) gs)
    each [] all = tt
    each (g ∷ gs) all = (all.0, each gs all.1)

firsts_sorted : (sets : List (List Pair))
    → map (λ (e : Seen). e.0) (sorted le_seen (entries_from 0 sets))
    ≡ sorted is_in_pair_order (flat_map (λ set. set) sets)
firsts_sorted sets =
    let es = entries_from 0 sets in
    let counts : SameCounts (flat_map (λ set. set) sets) (map (λ e. e.0) (sorted le_seen es)) = λ t.
    ap (count_by t) (sym (firsts_are 0 sets)) ∙ count-map (λ e. e.0) t es
    ∙ sym (counts-sorted le_seen es (λ e. t e.0))
    ∙ sym (count-map (λ e. e.0) t (sorted le_seen es)) in
    sorted_from_up is_in_pair_order pair_order (flat_map (λ set. set) sets)
    (map (λ e. e.0) (sorted le_seen es))
    (up_map (sorted le_seen es) (up_pairs (sorted le_seen es) (up-sorted le_seen seen_order es)))
    counts

-- ---- what is gathered

each_posting : (sets : List (List Pair)) (es : List Seen) (qs : List Posting)
    → ((p : Pair) → ordinals_among es p ≡ ordinals_of sets p)
    → AllByRecursion (Right es) qs → qs ≡ map (posting_of sets) (map (λ (q : Posting). q.pair) qs)
each_posting sets es [] are all = refl
each_posting sets es (q ∷ qs) are all =
    ap₂ (λ ns rs. record { pair = q.pair; ordinals = ns } ∷ rs) (all.0 ∙ are q.pair)
    (each_posting sets es qs are all.1)

pairs_deduped : (es : List Seen)
    → map (λ (q : Posting). q.pair) (gathered es) ≡ dedup pair_eq (map (λ (e : Seen). e.0) es)
pairs_deduped [] = refl
pairs_deduped (e ∷ es) = pairs_gathered e es

pub gathered_are : (sets : List (List Pair)) → AllByRecursion IsLabels sets
    → gathered (sorted le_seen (entries_from 0 sets)) ≡ postings_of sets
gathered_are sets all =
    let es = sorted le_seen (entries_from 0 sets) in
    each_posting sets es (gathered es) (λ p. ordinals_sorted p sets all)
    (right es (up_pairs es (up-sorted le_seen seen_order (entries_from 0 sets))))
    ∙ ap (map (posting_of sets)) (pairs_deduped es ∙ ap (dedup pair_eq) (firsts_sorted sets))

-- a loop's step: the entries of the set at a place go to the end
pub entries_more : (sets : List (List Pair)) (i : ℕ) (set : List Pair) (done more whole : List Seen)
    → i < length sets → set ≡ get_or sets i set
    → more ≡ done ++ map (λ p. (p, i)) set → done ++ entries_from i (drop i sets) ≡ whole
    → more ++ entries_from (i + 1) (drop (i + 1) sets) ≡ whole
entries_more sets i set done more whole within is put so_far =
    ap (λ es. es ++ entries_from (i + 1) (drop (i + 1) sets)) put
    ∙ append_assoc done (map (λ p. (p, i)) set) (entries_from (i + 1) (drop (i + 1) sets))
    ∙ ap (λ es. done ++ es) (next ∙ ap (entries_from i) (sym (at_item sets i set within is)))
    ∙ so_far
  where
    next : map (λ p. (p, i)) set ++ entries_from (i + 1) (drop (i + 1) sets) ≡ map (λ p. (p, i)) set
        ++ entries_from (suc i) (drop (i + 1) sets)
    next = ap (λ n. map (λ p. (p, i)) set ++ entries_from n (drop (i + 1) sets)) (omega arith)
