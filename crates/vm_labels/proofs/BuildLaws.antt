-- What building makes is a label set: names that rise are in order and stand once, and pairs in
-- order whose names stand once rise.
use Rattle.std.proofs.Common.{Bor, ◌≡◌, ℕ, zero, suc, ◌+◌, ◌-◌, ◌<◌, ◌≤◌, Bool, true, false, cond, not, ◌&&◌, ◌||◌, List, [], ◌∷◌, length, drop, get_or, filter, Option, Some, None, Ok, Ordering, Less, Equal, Greater, is_lt, refl, sym, ap, subst, ◌∙◌, true≢false, arith, count_by, take, map, reverse}
use Rattle.std.specs.Prelude.{bytes_eq, position, option_map, find}
use Rattle.std.specs.BTreeSet.{insert_key}
use Rattle.std.specs.List.{AllByRecursion, list_all, list_any, position_from}
use Rattle.std.specs.Ordering.{is_eq, is_le, ordering_then, ordering_reverse, match_ordering}
use Rattle.std.specs.Cmp.Lexicographic.{texts_ties}
use Rattle.std.proofs.lemmas.Cmp.{nat_list_cmp_total, nat_list_eq_equiv}
use Rattle.std.proofs.lemmas.Iterator.Adapters.{position_from-zero}
use Rattle.std.proofs.lemmas.List.{drop_more, take_more, map_push, reverse-append}
use Rattle.std.proofs.lemmas.Slice.Eq.{bytes_eq-Decides}
use Rattle.vm_base.specs.Sorted.{IsUp, put_in, sorted}
use Rattle.vm_base.proofs.SortedLaws.{count-cons, counts-sorted, sorted-up, up-sorted}
use Rattle.vm_labels.specs.Labels.{text_cmp, is_below, has_value, has_name, names_rise, IsLabels, is_in_pair_order, is_badly_named, twice_named, is_among, value_of, ordered, unless, built}
use Rattle.vm_labels.specs.declared.fault.LabelFault.TheVariants.{BadName, TwiceNamed}
use Rattle.vm_labels.specs.Name.{is_name}
use Rattle.vm_labels.specs.declared.pair.Pair.{Pair}
use Rattle.vm_labels.proofs.OrderLaws.{both_true, and_true, pair_order}

lt_is : (o : Ordering) → is_lt o ≡ true → o ≡ Less
lt_is Less h = refl
lt_is Equal h = absurd (true≢false (sym h))
lt_is Greater h = absurd (true≢false (sym h))

and_second : (a b : Bool) → (b ≡ true → a ≡ true) → (a && b) ≡ b
and_second a true h = ap (λ c. c && true) (h refl)
and_second true false h = refl
and_second false false h = refl

all_more : {X : Type 0} (P Q : X → Type 0) → ((x : X) → P x → Q x) → (xs : List X)
    → AllByRecursion P xs → AllByRecursion Q xs
all_more P Q more [] all = tt
all_more P Q more (x ∷ xs) all = (more x all.0, all_more P Q more xs all.1)

-- ---- texts

pub below_chain : (a b c : List ℕ) → is_below a b ≡ true → is_below b c ≡ true → is_below a c ≡ true
below_chain a b c p q =
    ap is_lt (nat_list_cmp_total.trans a b c (lt_is (text_cmp a b) p) (lt_is (text_cmp b c) q))

pub below_apart : (a b : List ℕ) → is_below a b ≡ true → bytes_eq a b ≡ false
below_apart a b p = texts_ties a b ∙ ap is_eq (lt_is (text_cmp a b) p)

pub bytes_eq_back : (a b : List ℕ) → bytes_eq a b ≡ bytes_eq b a
bytes_eq_back = nat_list_eq_equiv.symm

-- ---- names that rise

above_more : (a b : List ℕ) (ps : List Pair) → is_below a b ≡ true
    → list_all (λ q. is_below b q.name) ps ≡ true → list_all (λ q. is_below a q.name) ps ≡ true
above_more a b [] h all = refl
above_more a b (p ∷ ps) h all =
    let both = both_true (is_below b p.name) (list_all (λ q. is_below b q.name) ps) all in
    and_true (is_below a p.name) (list_all (λ q. is_below a q.name) ps)
    (below_chain a b p.name h both.0) (above_more a b ps h both.1)

-- a name before the next one is before all, where those rise
pub rise_next : (p q : Pair) (ps : List Pair) → is_below p.name q.name ≡ true
    → names_rise (p ∷ q ∷ ps) ≡ names_rise (q ∷ ps)
rise_next p q ps h =
    and_second (list_all (λ r. is_below p.name r.name) (q ∷ ps)) (names_rise (q ∷ ps))
    (λ rises. and_true (is_below p.name q.name) (list_all (λ r. is_below p.name r.name) ps) h
    (above_more p.name q.name ps h
    (both_true (list_all (λ r. is_below q.name r.name) ps) (names_rise ps) rises).0))

pub rise_broken : (p q : Pair) (ps : List Pair) → is_below p.name q.name ≡ false
    → names_rise (p ∷ q ∷ ps) ≡ false
rise_broken p q ps h =
    ap (λ b. (b && list_all (λ r. is_below p.name r.name) ps) && names_rise (q ∷ ps)) h

pair_at : (pairs : List Pair) (at : ℕ) (p q : Pair) → 1 ≤ at → at < length pairs
    → p ≡ get_or pairs (at - 1) p → q ≡ get_or pairs at q
    → (drop (at - 1) pairs ≡ p ∷ q ∷ drop (at + 1) pairs)
    × (drop at pairs ≡ q ∷ drop (at + 1) pairs)
pair_at pairs at p q low high is_p is_q =
    let one : drop (at - 1) pairs ≡ p ∷ drop (at - 1 + 1) pairs =
    drop_more pairs (at - 1) p (omega arith)
    ∙ ap (λ r. r ∷ drop (at - 1 + 1) pairs) (sym is_p) in
    let back : at - 1 + 1 ≡ at = omega arith in
    let two : drop at pairs ≡ q ∷ drop (at + 1) pairs = drop_more pairs at q high
    ∙ ap (λ r. r ∷ drop (at + 1) pairs) (sym is_q) in
    (one ∙ ap (λ k. p ∷ drop k pairs) back ∙ ap (λ ps. p ∷ ps) two, two)

pub rise_step : (pairs : List Pair) (at : ℕ) (p q : Pair) → 1 ≤ at → at < length pairs
    → p ≡ get_or pairs (at - 1) p → q ≡ get_or pairs at q
    → is_below p.name q.name ≡ true → names_rise (drop (at - 1) pairs) ≡ names_rise (drop at pairs)
rise_step pairs at p q low high is_p is_q h =
    let parts = pair_at pairs at p q low high is_p is_q in
    ap names_rise parts.0 ∙ rise_next p q (drop (at + 1) pairs) h ∙ sym (ap names_rise parts.1)

pub rise_short : (ps : List Pair) → length ps ≤ 1 → names_rise ps ≡ true
rise_short [] h = refl
rise_short (p ∷ []) h = refl
rise_short (p ∷ q ∷ ps) h = absurd (omega arith)

-- pairs whose names rise are in order
below_in_order : (p q : Pair) → is_below p.name q.name ≡ true → is_in_pair_order p q ≡ true
below_in_order p q h =
    ap (λ o. is_le (ordering_then o (text_cmp p.value q.value))) (lt_is (text_cmp p.name q.name) h)

all_in_order : (p : Pair) (ps : List Pair) → list_all (λ q. is_below p.name q.name) ps ≡ true
    → AllByRecursion (λ q. is_in_pair_order p q ≡ true) ps
all_in_order p [] h = tt
all_in_order p (q ∷ ps) h =
    let both = both_true (is_below p.name q.name) (list_all (λ r. is_below p.name r.name) ps) h in
    (below_in_order p q both.0, all_in_order p ps both.1)

pub rising_up : (ps : List Pair) → names_rise ps ≡ true → IsUp is_in_pair_order ps
rising_up [] h = tt
rising_up (p ∷ ps) h =
    let both = both_true (list_all (λ q. is_below p.name q.name) ps) (names_rise ps) h in
    (all_in_order p ps both.0, rising_up ps both.1)

-- names that rise stand once
not_among : (name : List ℕ) (earlier : List (List ℕ))
    → AllByRecursion (λ e. is_below e name ≡ true) earlier
    → list_any (bytes_eq name) earlier ≡ false
not_among name [] all = refl
not_among name (e ∷ es) all =
    rw (bytes_eq_back name e ∙ below_apart e name all.0) (not_among name es all.1)

pub twice_none : (earlier : List (List ℕ)) (ps : List Pair) → names_rise ps ≡ true
    → AllByRecursion (λ e. list_all (λ q. is_below e q.name) ps ≡ true) earlier
    → twice_named earlier ps ≡ None
twice_none earlier [] rises before = refl
twice_none earlier (p ∷ ps) rises before =
    let both = both_true (list_all (λ q. is_below p.name q.name) ps) (names_rise ps) rises in
    let heads =
    all_more (λ e. list_all (λ q. is_below e q.name) (p ∷ ps) ≡ true)
    (λ e. is_below e p.name ≡ true)
    (λ e h. (both_true (is_below e p.name) (list_all (λ q. is_below e q.name) ps) h).0) earlier
    before in
    let tails =
    all_more (λ e. list_all (λ q. is_below e q.name) (p ∷ ps) ≡ true)
    (λ e. list_all (λ q. is_below e q.name) ps ≡ true)
    (λ e h. (both_true (is_below e p.name) (list_all (λ q. is_below e q.name) ps) h).1) earlier
    before in
    ap (λ b. cond b (Some p.name) (twice_named (p.name ∷ earlier) ps))
    (not_among p.name earlier heads)
    ∙ twice_none (p.name ∷ earlier) ps both.1 (both.0, tails)

-- ---- names that stand once

-- how often a name may still come
abbrev pub still : List (List ℕ) → List ℕ → ℕ
still earlier name = cond (list_any (bytes_eq name) earlier) 0 1

pub once : (earlier : List (List ℕ)) (ps : List Pair) → twice_named earlier ps ≡ None
    → (name : List ℕ) → count_by (has_name name) ps ≤ still earlier name
once earlier [] h name = omega arith
once earlier (p ∷ ps) h name =
    go (λ none. once (p.name ∷ earlier) ps none name) (list_any (bytes_eq p.name) earlier) refl h
  where
    further : list_any (bytes_eq p.name) earlier ≡ false
        → count_by (has_name name) ps ≤ still (p.name ∷ earlier) name → (b : Bool)
        → bytes_eq p.name name ≡ b → count_by (has_name name) (p ∷ ps) ≤ still earlier name
    further new more true same =
        let here : p.name ≡ name = (bytes_eq-Decides p.name name).0 same in
        let none : still (p.name ∷ earlier) name ≡ 0 =
        ap (λ c. cond (c || list_any (bytes_eq name) earlier) 0 1)
        (bytes_eq_back name p.name ∙ same) in
        let one : still earlier name ≡ 1 =
        ap (λ c. cond c 0 1) (subst (λ n. list_any (bytes_eq n) earlier ≡ false) here new) in
        let counted : cond {A = ℕ} (has_name name p) 1 0 ≡ 1 = ap (λ c. cond c 1 0) same in
        omega (arith, count-cons (has_name name) p ps, more, none, one, counted)
    further new more false apart =
        let same : still (p.name ∷ earlier) name ≡ still earlier name =
        ap (λ c. cond (c || list_any (bytes_eq name) earlier) 0 1)
        (bytes_eq_back name p.name ∙ apart) in
        let counted : cond {A = ℕ} (has_name name p) 1 0 ≡ 0 = ap (λ c. cond c 1 0) apart in
        omega (arith, count-cons (has_name name) p ps, more, same, counted)

    go : (twice_named (p.name ∷ earlier) ps ≡ None
        → count_by (has_name name) ps ≤ still (p.name ∷ earlier) name)
        → (b : Bool) → list_any (bytes_eq p.name) earlier ≡ b
        → cond b (Some p.name) (twice_named (p.name ∷ earlier) ps) ≡ None
        → count_by (has_name name) (p ∷ ps) ≤ still earlier name
    go more true new none = absurd cc
    go more false new none = further new (more none) (bytes_eq p.name name) refl

-- pairs in order, none of which has the first one's name, have names above it
apart_below : (p q : Pair) → is_in_pair_order p q ≡ true → bytes_eq q.name p.name ≡ false
    → is_below p.name q.name ≡ true
apart_below p q in_order apart =
    go (text_cmp p.name q.name) in_order
    (sym (texts_ties p.name q.name) ∙ bytes_eq_back p.name q.name ∙ apart)
  where
    go : (o : Ordering) → is_le (ordering_then o (text_cmp p.value q.value)) ≡ true
        → is_eq o ≡ false → is_lt o ≡ true
    go Less h k = refl
    go Equal h k = absurd (true≢false k)
    go Greater h k = absurd (true≢false (sym h))

all_below : (p : Pair) (ps : List Pair) → AllByRecursion (λ q. is_in_pair_order p q ≡ true) ps
    → count_by (has_name p.name) ps ≤ 0 → list_all (λ q. is_below p.name q.name) ps ≡ true
all_below p [] up none = refl
all_below p (q ∷ ps) up none = go (all_below p ps up.1) (bytes_eq q.name p.name) refl
  where
    go : (count_by (has_name p.name) ps ≤ 0 → list_all (λ r. is_below p.name r.name) ps ≡ true)
        → (b : Bool) → bytes_eq q.name p.name ≡ b
        → list_all (λ r. is_below p.name r.name) (q ∷ ps) ≡ true
    go more true same =
        let counted : cond {A = ℕ} (has_name p.name q) 1 0 ≡ 1 = ap (λ c. cond c 1 0) same in
        absurd (omega (arith, count-cons (has_name p.name) q ps, none, counted))
    go more false apart =
        and_true (is_below p.name q.name) (list_all (λ r. is_below p.name r.name) ps)
        (apart_below p q up.0 apart)
        (more (omega (arith, count-cons (has_name p.name) q ps, none)))

pub rising_from : (ps : List Pair) → IsUp is_in_pair_order ps
    → ((name : List ℕ) → count_by (has_name name) ps ≤ 1) → names_rise ps ≡ true
rising_from [] up few = refl
rising_from (p ∷ ps) up few =
    let itself : bytes_eq p.name p.name ≡ true = (bytes_eq-Decides p.name p.name).1 refl in
    let counted : cond {A = ℕ} (has_name p.name p) 1 0 ≡ 1 = ap (λ c. cond c 1 0) itself in
    and_true (list_all (λ q. is_below p.name q.name) ps) (names_rise ps)
    (all_below p ps up.0 (omega (arith, count-cons (has_name p.name) p ps, few p.name, counted)))
    (rising_from ps up.1 (λ name. omega (arith, count-cons (has_name name) p ps, few name)))

-- ---- tests of each pair

swap_and : (a b c : Bool) → (a && (b && c)) ≡ (b && (a && c))
swap_and true true c = refl
swap_and true false c = refl
swap_and false true c = refl
swap_and false false c = refl

list_all-put_in : {X : Type 0} (le : X → X → Bool) (f : X → Bool) (x : X) (xs : List X)
    → list_all f (put_in le x xs) ≡ list_all f (x ∷ xs)
list_all-put_in le f x [] = refl
list_all-put_in le f x (y ∷ ys) =
    elim (le x y) as (λ b. list_all f (cond b (x ∷ y ∷ ys) (y ∷ put_in le x ys))
    ≡ list_all f (x ∷ y ∷ ys)) [
      | true ↦ refl
      | false ↦ ap (λ b. f y && b) (list_all-put_in le f x ys)
          ∙ swap_and (f y) (f x) (list_all f ys)
    ]

pub list_all-sorted : {X : Type 0} (le : X → X → Bool) (f : X → Bool) (xs : List X)
    → list_all f (sorted le xs) ≡ list_all f xs
list_all-sorted le f [] = refl
list_all-sorted le f (x ∷ xs) = list_all-put_in le f x (sorted le xs)
    ∙ ap (λ b. f x && b) (list_all-sorted le f xs)

pub list_all-own : {X : Type 0} (f : X → Bool) (xs : List X) → list_all f (filter f xs) ≡ true
list_all-own f [] = refl
list_all-own f (x ∷ xs) = go (list_all-own f xs) (f x) refl
  where
    go : list_all f (filter f xs) ≡ true → (b : Bool) → f x ≡ b
        → list_all f (cond b (x ∷ filter f xs) (filter f xs)) ≡ true
    go more true h = and_true (f x) (list_all f (filter f xs)) h more
    go more false h = more

pub list_all-filter : {X : Type 0} (f g : X → Bool) (xs : List X) → list_all f xs ≡ true
    → list_all f (filter g xs) ≡ true
list_all-filter f g [] h = refl
list_all-filter f g (x ∷ xs) h =
    let both = both_true (f x) (list_all f xs) h in
    elim (g x) as (λ b. list_all f (cond b (x ∷ filter g xs) (filter g xs)) ≡ true) [
      | true ↦ and_true (f x) (list_all f (filter g xs)) both.0 (list_all-filter f g xs both.1)
      | false ↦ list_all-filter f g xs both.1
    ]

-- where no pair with a value has a name that is none, those with a value have names
named_from : (i : ℕ) (ps : List Pair) → position_from is_badly_named i ps ≡ None
    → list_all (λ p. is_name p.name) (filter has_value ps) ≡ true
named_from i [] h = refl
named_from i (p ∷ ps) h = go (named_from (i + 1) ps) (has_value p) (is_name p.name) refl refl h
  where
    go : (position_from is_badly_named (i + 1) ps ≡ None
        → list_all (λ q. is_name q.name) (filter has_value ps) ≡ true) → (v n : Bool)
        → has_value p ≡ v → is_name p.name ≡ n
        → cond (v && not n) (Some i) (position_from is_badly_named (i + 1) ps) ≡ None
        → list_all (λ q. is_name q.name) (cond v (p ∷ filter has_value ps) (filter has_value ps))
        ≡ true
    go more true true a b none =
        and_true (is_name p.name) (list_all (λ q. is_name q.name) (filter has_value ps)) b
        (more none)
    go more true false a b none = absurd cc
    go more false n a b none = more none

pub named : (ps : List Pair) → position is_badly_named ps ≡ None
    → list_all (λ p. is_name p.name) (filter has_value ps) ≡ true
named ps h = named_from 0 ps (sym (position_from-zero is_badly_named ps) ∙ h)

-- ---- what building makes

-- pairs with names and values, in order, are a label set where no name stands twice
pub sorted_labels : (ps : List Pair) → list_all (λ p. is_name p.name) ps ≡ true
    → list_all has_value ps ≡ true
    → ((name : List ℕ) → count_by (has_name name) ps ≤ 1) → IsLabels (sorted is_in_pair_order ps)
sorted_labels ps names values few = record {
  named = list_all-sorted is_in_pair_order (λ p. is_name p.name) ps ∙ names;
  valued = list_all-sorted is_in_pair_order has_value ps ∙ values;
  rising =
      rising_from (sorted is_in_pair_order ps) (up-sorted is_in_pair_order pair_order ps)
      (λ name. omega (arith, counts-sorted is_in_pair_order ps (has_name name), few name));
}

pub built_labels : (ps : List Pair) → position is_badly_named ps ≡ None
    → twice_named [] (filter has_value ps) ≡ None
    → IsLabels (sorted is_in_pair_order (filter has_value ps))
built_labels ps names single =
    sorted_labels (filter has_value ps) (named ps names) (list_all-own has_value ps)
    (once [] (filter has_value ps) single)

-- names that rise already
pub rising_ordered : (ps : List Pair) → names_rise ps ≡ true → (twice_named [] ps ≡ None)
    × (sorted is_in_pair_order ps ≡ ps)
rising_ordered ps rises =
    (twice_none [] ps rises tt, sorted-up is_in_pair_order pair_order ps (rising_up ps rises))

-- ---- the names before a place, the last one first

abbrev pub names_before : ℕ → List Pair → List (List ℕ)
names_before i ps = reverse (map (λ p. p.name) (take i ps))

pub names_before-more : (ps : List Pair) (i : ℕ) (d : Pair) → i < length ps
    → names_before (i + 1) ps ≡ (get_or ps i d).name ∷ names_before i ps
names_before-more ps i d within =
    ap (λ qs. reverse (map (λ p. p.name) qs)) (take_more ps i d within)
    ∙ ap reverse (map_push (λ p. p.name) (take i ps) (get_or ps i d))
    ∙ reverse-append (map (λ p. p.name) (take i ps)) ((get_or ps i d).name ∷ [])

-- the next pair's name is new, so the search goes on after it
pub twice_step : (ps : List Pair) (i : ℕ) (p : Pair) (found : Option (List ℕ)) → i < length ps
    → p ≡ get_or ps i p
    → is_among (names_before i ps) p.name ≡ false
    → twice_named (names_before i ps) (drop i ps) ≡ found
    → twice_named (names_before (i + 1) ps) (drop (i + 1) ps) ≡ found
twice_step ps i p found within is new so_far =
    let front : names_before (i + 1) ps ≡ p.name ∷ names_before i ps =
    names_before-more ps i p within ∙ ap (λ q. q.name ∷ names_before i ps) (sym is) in
    let here : drop i ps ≡ p ∷ drop (i + 1) ps = drop_more ps i p within
    ∙ ap (λ q. q ∷ drop (i + 1) ps) (sym is) in
    let step : twice_named (names_before i ps) (drop i ps)
    ≡ twice_named (p.name ∷ names_before i ps) (drop (i + 1) ps) =
    ap (twice_named (names_before i ps)) here
    ∙ ap (λ b.
    cond b (Some p.name) (twice_named (p.name ∷ names_before i ps) (drop (i + 1) ps))) new in
    ap (λ names. twice_named names (drop (i + 1) ps)) front ∙ sym step ∙ so_far

pub twice_found : (ps : List Pair) (i : ℕ) (p : Pair) (found : Option (List ℕ)) → i < length ps
    → p ≡ get_or ps i p
    → is_among (names_before i ps) p.name ≡ true
    → twice_named (names_before i ps) (drop i ps) ≡ found → Some p.name ≡ found
twice_found ps i p found within is old so_far =
    let here : drop i ps ≡ p ∷ drop (i + 1) ps = drop_more ps i p within
    ∙ ap (λ q. q ∷ drop (i + 1) ps) (sym is) in
    let step : twice_named (names_before i ps) (drop i ps) ≡ Some p.name =
    ap (twice_named (names_before i ps)) here
    ∙ ap (λ b.
    cond b (Some p.name) (twice_named (p.name ∷ names_before i ps) (drop (i + 1) ps))) old in
    sym step ∙ so_far

-- ---- a set of texts, seen by its keys

or_itself : (a b : Bool) → (a || b) ≡ (a || (a || b))
or_itself true b = refl
or_itself false b = refl

or_swap : (a b c : Bool) → (a || (b || c)) ≡ (b || (a || c))
or_swap true true c = refl
or_swap true false c = refl
or_swap false true c = refl
or_swap false false c = refl

-- the text is one of the keys
abbrev pub has_key : List ℕ → List (Bor (List ℕ)) → Bool
has_key text keys = list_any (λ k. is_eq (text_cmp text k.now)) keys

abbrev pub key_cmp : Bor (List ℕ) → Bor (List ℕ) → Ordering
key_cmp x y = text_cmp x.now y.now

key_more : (text : List ℕ) (keys : List (Bor (List ℕ))) (key : Bor (List ℕ))
    → has_key text (insert_key key_cmp keys key)
    ≡ (is_eq (text_cmp text key.now) || has_key text keys)
key_more text [] key = refl
key_more text (x ∷ xs) key = go (key_more text xs key) (key_cmp key x) refl
  where
    go : has_key text (insert_key key_cmp xs key)
        ≡ (is_eq (text_cmp text key.now) || has_key text xs) → (o : Ordering) → key_cmp key x ≡ o
        → has_key text (match_ordering o (key ∷ x ∷ xs) (x ∷ xs) (x ∷ insert_key key_cmp xs key))
        ≡ (is_eq (text_cmp text key.now) || has_key text (x ∷ xs))
    go more Less e = refl
    go more Equal e =
        let same : key.now ≡ x.now =
        (bytes_eq-Decides key.now x.now).0 (texts_ties key.now x.now ∙ ap is_eq e) in
        or_itself (is_eq (text_cmp text x.now)) (has_key text xs)
        ∙ ap (λ t. is_eq (text_cmp text t) || has_key text (x ∷ xs)) (sym same)
    go more Greater e =
        ap (λ b. is_eq (text_cmp text x.now) || b) more
        ∙ or_swap (is_eq (text_cmp text x.now)) (is_eq (text_cmp text key.now))
        (has_key text xs)

pub seen_more :
    (text : List ℕ) (keys : List (Bor (List ℕ))) (key : Bor (List ℕ)) (names : List (List ℕ))
    → has_key text keys ≡ is_among names text
    → has_key text (insert_key key_cmp keys key) ≡ is_among (key.now ∷ names) text
seen_more text keys key names h =
    key_more text keys key ∙ ap (λ b. b || has_key text keys) (sym (texts_ties text key.now))
    ∙ ap (λ b. bytes_eq text key.now || b) h

-- ---- looking a name up

-- pairs whose names are above a name don't have it
none_above : (name : List ℕ) (ps : List Pair) → list_all (λ q. is_below name q.name) ps ≡ true
    → find (has_name name) ps ≡ None
none_above name [] h = refl
none_above name (p ∷ ps) h =
    let both = both_true (is_below name p.name) (list_all (λ q. is_below name q.name) ps) h in
    ap (λ b. cond b (Some p) (find (has_name name) ps))
    (bytes_eq_back p.name name ∙ below_apart name p.name both.0) ∙ none_above name ps both.1

rises_drop : (ps : List Pair) (i : ℕ) → names_rise ps ≡ true → names_rise (drop i ps) ≡ true
rises_drop ps zero h = h
rises_drop [] (suc i) h = refl
rises_drop (p ∷ ps) (suc i) h =
    rises_drop ps i (both_true (list_all (λ q. is_below p.name q.name) ps) (names_rise ps) h).1

pub get_here : (ps : List Pair) (i : ℕ) (p : Pair) (name : List ℕ) (found : Option (List ℕ))
    → i < length ps → p ≡ get_or ps i p → text_cmp p.name name ≡ Equal
    → value_of name (drop i ps) ≡ found → Some p.value ≡ found
get_here ps i p name found within is same so_far =
    let here : drop i ps ≡ p ∷ drop (i + 1) ps = drop_more ps i p within
    ∙ ap (λ q. q ∷ drop (i + 1) ps) (sym is) in
    let step : value_of name (drop i ps) ≡ Some p.value =
    ap (value_of name) here
    ∙ ap (λ b.
    option_map (λ q. q.value) (cond b (Some p) (find (has_name name) (drop (i + 1) ps))))
    (texts_ties p.name name ∙ ap is_eq same) in
    sym step ∙ so_far

pub get_further : (ps : List Pair) (i : ℕ) (p : Pair) (name : List ℕ) (found : Option (List ℕ))
    → i < length ps → p ≡ get_or ps i p → text_cmp p.name name ≡ Less
    → value_of name (drop i ps) ≡ found → value_of name (drop (i + 1) ps) ≡ found
get_further ps i p name found within is before so_far =
    let here : drop i ps ≡ p ∷ drop (i + 1) ps = drop_more ps i p within
    ∙ ap (λ q. q ∷ drop (i + 1) ps) (sym is) in
    let step : value_of name (drop i ps) ≡ value_of name (drop (i + 1) ps) =
    ap (value_of name) here
    ∙ ap (λ b.
    option_map (λ q. q.value) (cond b (Some p) (find (has_name name) (drop (i + 1) ps))))
    (texts_ties p.name name ∙ ap is_eq before) in
    sym step ∙ so_far

pub get_passed : (ps : List Pair) (i : ℕ) (p : Pair) (name : List ℕ) (found : Option (List ℕ))
    → i < length ps → p ≡ get_or ps i p → text_cmp p.name name ≡ Greater
    → names_rise ps ≡ true → value_of name (drop i ps) ≡ found → None ≡ found
get_passed ps i p name found within is after rises so_far =
    let here : drop i ps ≡ p ∷ drop (i + 1) ps = drop_more ps i p within
    ∙ ap (λ q. q ∷ drop (i + 1) ps) (sym is) in
    let above : is_below name p.name ≡ true =
    ap is_lt (nat_list_cmp_total.antisymm name p.name ∙ ap ordering_reverse after) in
    let rest : list_all (λ q. is_below p.name q.name) (drop (i + 1) ps) ≡ true =
    (both_true (list_all (λ q. is_below p.name q.name) (drop (i + 1) ps))
    (names_rise (drop (i + 1) ps)) (sym (ap names_rise here) ∙ rises_drop ps i rises)).0 in
    let all : list_all (λ q. is_below name q.name) (p ∷ drop (i + 1) ps) ≡ true =
    and_true (is_below name p.name) (list_all (λ q. is_below name q.name) (drop (i + 1) ps)) above
    (above_more name p.name (drop (i + 1) ps) above rest) in
    let step : value_of name (drop i ps) ≡ None = ap (value_of name) here
    ∙ ap (option_map (λ q. q.value)) (none_above name (p ∷ drop (i + 1) ps) all) in
    sym step ∙ so_far

-- a test that a call answered the other way round
pub negated : (a b : Bool) → a ≡ not b → {d : Bool} → a ≡ d → b ≡ not d
negated a true e {d} h = ap not (sym e ∙ h)
negated a false e {d} h = ap not (sym e ∙ h)

-- pairs that call for a sort
pub ordered_by_sort : (ps sorted_ps : List Pair) → twice_named [] ps ≡ None
    → sorted_ps ≡ sorted is_in_pair_order ps → ordered ps ≡ Ok sorted_ps
ordered_by_sort ps sorted_ps single is =
    ap (λ o. unless (option_map TwiceNamed o) (Ok (sorted is_in_pair_order ps))) single
    ∙ ap Ok (sym is)

pub ordered_already : (ps : List Pair) → names_rise ps ≡ true → ordered ps ≡ Ok ps
ordered_already ps rises =
    ordered_by_sort ps ps (rising_ordered ps rises).0 (sym (rising_ordered ps rises).1)

-- what `ordered` gives are labels, where the pairs have names and values
pub ordered_gives : (ps qs : List Pair) → ordered ps ≡ Ok qs → (twice_named [] ps ≡ None)
    × (qs ≡ sorted is_in_pair_order ps)
ordered_gives ps qs h = go (twice_named [] ps) h
  where
    go : (o : Option (List ℕ))
        → unless (option_map TwiceNamed o) (Ok (sorted is_in_pair_order ps)) ≡ Ok qs → (o ≡ None)
        × (qs ≡ sorted is_in_pair_order ps)
    go None e = (refl, cc)
    go (Some n) e = absurd cc

pub built_is : (pairs qs : List Pair) → position is_badly_named pairs ≡ None
    → ordered (filter has_value pairs) ≡ Ok qs → IsLabels qs × (built pairs ≡ Ok qs)
built_is pairs qs names h =
    let parts = ordered_gives (filter has_value pairs) qs h in (
      subst IsLabels (sym parts.1) (built_labels pairs names parts.0),
      ap (λ o. unless (option_map BadName o) (ordered (filter has_value pairs))) names ∙ h,
    )
