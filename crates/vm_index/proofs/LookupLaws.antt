-- What a lookup finds is the ordinals of the sets that have the pair.
use Rattle.std.proofs.Common.{◌≡◌, ℕ, zero, suc, ◌+◌, ◌<◌, ◌≤◌, Bool, true, false, cond, ◌||◌, List, [], ◌∷◌, length, get_or, map, flat_map, refl, sym, ap, ◌∙◌, subst, arith, true≢false, IsSortedBy, nat_lt, Equal, Err, ◌⊎◌, ⊎_elim}
use Rattle.std.specs.List.{AllByRecursion, list_any}
use Rattle.std.specs.Ordering.{is_lt, ordering_reverse}
use Rattle.std.specs.List.Sorted.{IsBinarySearchResult, IsPartitionPoint}
use Rattle.std.specs.declared.cmp.Ordering.{Ordering}
use Rattle.std.specs.declared.cmp.Ordering.TheVariants.{Less, Greater}
use Rattle.std.proofs.lemmas.Bool.{lt-ltb}
use Rattle.std.proofs.lemmas.Bool.Decides.{nat_tests}
use Rattle.std.proofs.lemmas.Cmp.{tied_itself}
use Rattle.std.proofs.lemmas.List.Elements.{All-from_recursion}
use Rattle.std.proofs.lemmas.List.Folds.{list_any-append}
use Rattle.std.proofs.lemmas.List.Sorted.{searchable_from_sorted}
use Rattle.vm_base.specs.Sorted.{IsUp, sorted}
use Rattle.vm_labels.specs.Labels.{pair_cmp, pair_eq, is_in_pair_order}
use Rattle.vm_labels.specs.declared.pair.Pair.{Pair}
use Rattle.vm_labels.proofs.OrderLaws.{pair_eq-Decides, pairs_tied, pair_cmp-total}
use Rattle.vm_index.specs.declared.posting.Posting.{Posting}
use Rattle.vm_index.specs.Index.{places_from, ordinals_of, pairs_of, posting_of, postings_of, found_in, PostingsRise}
use Rattle.vm_index.specs.Numbers.{Rise}
use Rattle.vm_index.proofs.DistinctLaws.{any_dedup, any_sorted, up_dedup}
use Rattle.vm_index.proofs.GatherLaws.{below, below_apart, same_pair}
use Rattle.vm_base.proofs.SortedLaws.{up-sorted}
use Rattle.vm_labels.proofs.OrderLaws.{pair_order}

-- ---- places

all_from : {X : Type 0} (m at : ℕ) (p : X → Bool) (xs : List X) → m < at
    → AllByRecursion (λ n. nat_lt m n ≡ true) (places_from at p xs)
all_from m at p [] h = tt
all_from m at p (x ∷ xs) h =
    let more = all_from m (suc at) p xs (omega arith) in
    elim (p x) as (λ b.
    AllByRecursion (λ n. nat_lt m n ≡ true)
    (cond b (at ∷ places_from (suc at) p xs) (places_from (suc at) p xs)))
    [ true ↦ (lt-ltb m at h, more) | false ↦ more ]

pub places_rise : {X : Type 0} (at : ℕ) (p : X → Bool) (xs : List X) → Rise (places_from at p xs)
places_rise at p [] = tt
places_rise at p (x ∷ xs) =
    let more = places_rise (suc at) p xs in
    elim (p x) as (λ b. Rise (cond b (at ∷ places_from (suc at) p xs) (places_from (suc at) p xs)))
    [ true ↦ (all_from at (suc at) p xs (omega arith), more) | false ↦ more ]

-- ---- the pairs of all sets hold what the sets hold

any_flat : (t : Pair → Bool) (sets : List (List Pair))
    → list_any t (flat_map (λ set. set) sets) ≡ list_any (list_any t) sets
any_flat t [] = refl
any_flat t (set ∷ sets) = list_any-append t set (flat_map (λ s. s) sets)
    ∙ ap (λ b. list_any t set || b) (any_flat t sets)

-- some pair of all sets passes a test where a pair of some set does
pub any_pair : (t : Pair → Bool) (sets : List (List Pair))
    → list_any t (pairs_of sets) ≡ list_any (list_any t) sets
any_pair t sets =
    let all = flat_map (λ set. set) sets in
    any_dedup pair_eq pair_eq-Decides t (sorted is_in_pair_order all)
    ∙ any_sorted is_in_pair_order t all ∙ any_flat t sets

none_there : (p : Pair) (at : ℕ) (sets : List (List Pair))
    → list_any (list_any (pair_eq p)) sets ≡ false → places_from at (list_any (pair_eq p)) sets ≡ []
none_there p at [] none = refl
none_there p at (set ∷ sets) none =
    let both = neither (list_any (pair_eq p) set) (list_any (list_any (pair_eq p)) sets) none in
    let here : list_any (pair_eq p) set ≡ false = both.0 in
    rw here (none_there p (suc at) sets both.1)
  where
    neither : (a b : Bool) → (a || b) ≡ false → (a ≡ false) × (b ≡ false)
    neither true b h = absurd (true≢false h)
    neither false b h = (refl, h)

-- ---- what is found

found_map : (sets : List (List Pair)) (p : Pair) (ps : List Pair)
    → found_in (map (posting_of sets) ps) p ≡ cond (list_any (pair_eq p) ps) (ordinals_of sets p) []
found_map sets p [] = refl
found_map sets p (q ∷ qs) = go (pair_eq p q) refl (found_map sets p qs)
  where
    go : (b : Bool) → pair_eq p q ≡ b
        → found_in (map (posting_of sets) qs) p
        ≡ cond (list_any (pair_eq p) qs) (ordinals_of sets p) []
        → cond b (ordinals_of sets q) (found_in (map (posting_of sets) qs) p)
        ≡ cond (b || list_any (pair_eq p) qs) (ordinals_of sets p) []
    go true same more = ap (ordinals_of sets) (sym ((pair_eq-Decides p q).0 same))
    go false apart more = more

pub found_are : (sets : List (List Pair)) (p : Pair)
    → found_in (postings_of sets) p ≡ ordinals_of sets p
found_are sets p =
    found_map sets p (pairs_of sets)
    ∙ ap (λ b. cond b (ordinals_of sets p) []) (any_pair (pair_eq p) sets)
    ∙ go (list_any (list_any (pair_eq p)) sets) refl
  where
    go : (b : Bool) → list_any (list_any (pair_eq p)) sets ≡ b
        → cond b (ordinals_of sets p) [] ≡ ordinals_of sets p
    go true there = refl
    go false none = sym (none_there p 0 sets none)

-- ---- postings rise by their pairs

up_postings : (sets : List (List Pair)) (ps : List Pair) → IsUp below ps
    → PostingsRise (map (posting_of sets) ps)
up_postings sets [] up = tt
up_postings sets (p ∷ ps) up = (each ps up.0, up_postings sets ps up.1)
  where
    each : (qs : List Pair) → AllByRecursion (λ q. below p q ≡ true) qs
        → AllByRecursion (λ (r : Posting). is_lt (pair_cmp p r.pair) ≡ true)
        (map (posting_of sets) qs)
    each [] all = tt
    each (q ∷ qs) all = (all.0, each qs all.1)

pub postings_rise : (sets : List (List Pair)) → PostingsRise (postings_of sets)
postings_rise sets =
    let all = flat_map (λ set. set) sets in
    up_postings sets (pairs_of sets)
    (up_dedup pair_cmp pair_cmp-total pair_eq pair_eq-Decides pairs_tied
    (sorted is_in_pair_order all) (up-sorted is_in_pair_order pair_order all))

-- ---- a search in postings that rise

none_after : (p : Pair) (qs : List Posting) → AllByRecursion (λ q. below p q.pair ≡ true) qs
    → found_in qs p ≡ []
none_after p [] all = refl
none_after p (q ∷ qs) all =
    let apart : pair_eq p q.pair ≡ false = turned p q.pair (below_apart p q.pair all.0) in
    rw apart (none_after p qs all.1)
  where
    turned : (a b : Pair) → pair_eq b a ≡ false → pair_eq a b ≡ false
    turned a b apart = go (pair_eq a b) refl
      where
        go : (c : Bool) → pair_eq a b ≡ c → pair_eq a b ≡ false
        go true same =
            absurd (true≢false (sym (same_pair b a (sym ((pair_eq-Decides a b).0 same))) ∙ apart))
        go false h = h

pub found_at : (p : Pair) (qs : List Posting) (i : ℕ) (d : Posting) → PostingsRise qs
    → i < length qs → pair_cmp (get_or qs i d).pair p ≡ Equal
    → found_in qs p ≡ (get_or qs i d).ordinals
found_at p [] i d up within tie = absurd (omega arith)
found_at p (q ∷ qs) zero d up within tie =
    let same : pair_eq p q.pair ≡ true = same_pair p q.pair (sym (pairs_tied q.pair p tie)) in
    rw same
found_at p (q ∷ qs) (suc i) d up within tie =
    let is : (get_or qs i d).pair ≡ p = pairs_tied (get_or qs i d).pair p tie in
    let over : below q.pair p ≡ true =
    subst (λ r. below q.pair r ≡ true) is
    (All-from_recursion (λ (r : Posting). below q.pair r.pair ≡ true) qs up.0 i d
    (omega arith)) in
    let apart : pair_eq p q.pair ≡ false = below_apart q.pair p over in
    rw apart (found_at p qs i d up.1 (omega arith) tie)

found_none : (p : Pair) (qs : List Posting)
    → ((k : ℕ) (d : Posting) → k < length qs → pair_cmp (get_or qs k d).pair p ≡ Equal → ⊥)
    → found_in qs p ≡ []
found_none p [] none = refl
found_none p (q ∷ qs) none =
    go (pair_eq p q.pair) refl (found_none p qs (λ k d within. none (suc k) d (omega arith)))
  where
    go : (b : Bool) → pair_eq p q.pair ≡ b → found_in qs p ≡ []
        → cond b q.ordinals (found_in qs p) ≡ []
    go true same more =
        absurd (none 0 q (omega arith)
        (ap (λ r. pair_cmp r p) (sym ((pair_eq-Decides p q.pair).0 same))
        ∙ tied_itself pair_cmp-total p))
    go false apart more = more

pub sorted_by : (qs : List Posting) → PostingsRise qs
    → IsSortedBy (λ (a b : Posting). is_lt (pair_cmp a.pair b.pair)) qs
sorted_by qs up k d low high =
    let first = get_or qs k d in
    let next = get_or qs (k + 1) d in
    let over : is_lt (pair_cmp first.pair next.pair) ≡ true = rises qs k d up high in
    back (pair_cmp first.pair next.pair) (pair_cmp next.pair first.pair)
    (pair_cmp-total.antisymm next.pair first.pair) over
  where
    rises : (rs : List Posting) (j : ℕ) (e : Posting) → PostingsRise rs → j + 1 < length rs
        → is_lt (pair_cmp (get_or rs j e).pair (get_or rs (j + 1) e).pair) ≡ true
    rises [] j e up within = absurd (omega arith)
    rises (r ∷ rs) zero e up within =
        All-from_recursion (λ (x : Posting). below r.pair x.pair ≡ true) rs up.0 0 e (omega arith)
    rises (r ∷ rs) (suc j) e up within =
        let next : suc j + 1 ≡ suc (j + 1) = omega arith in
        rw next (rises rs j e up.1 (omega arith))

    back : (o r : Ordering) → r ≡ ordering_reverse o → is_lt o ≡ true → is_lt r ≡ false
    back Less r is h = ap is_lt is
    back Equal r is h = absurd (true≢false (sym h))
    back Greater r is h = absurd (true≢false (sym h))

pub found_nowhere : (p : Pair) (qs : List Posting) (i : ℕ) → PostingsRise qs
    → IsBinarySearchResult (λ (q : Posting). pair_cmp q.pair p) qs (Err i) → found_in qs p ≡ []
found_nowhere p qs i up says =
    let point :
    IsPartitionPoint (λ (q : Posting). pair_cmp q.pair p ≡ Less)
    (λ (q : Posting). pair_cmp q.pair p ≡ Greater) qs i =
    says (searchable_from_sorted pair_cmp-total (λ (q : Posting). q.pair) qs p (sorted_by qs up)) in
    found_none p qs (λ k d within tie. ⊎_elim
    (λ low. unequal_less (sym (point.0 k d (omega arith) low) ∙ tie))
    (λ high. unequal_greater (sym (point.1 k d high within) ∙ tie))
    (either k))
  where
    either : (k : ℕ) → (k < i) ⊎ (i ≤ k)
    either k = grind (arith, nat_tests)

    unequal_less : Less ≡ Equal → ⊥
    unequal_less h = cc

    unequal_greater : Greater ≡ Equal → ⊥
    unequal_greater h = cc
