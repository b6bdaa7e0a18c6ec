-- Laws of lists in order. A list has one order, which std's sorts give, and the last item of two
-- lists in order that passes a test is the later of theirs.
use Rattle.std.proofs.Common.{◌≡◌, Bool, true, false, cond, List, [], ◌∷◌, ◌++◌, ◌⊎◌, Option, Some, None, filter, if◌then◌else◌, refl, sym, ap, ap₂, ◌∙◌, subst, ⊎_elim, true≢false, arith, ℕ, suc, ◌+◌, add-one, count_by, IsPermutation, IsSorted, IsSortedBy, Ordering, Less, Equal, Greater, is_lt, is_gt, inl, inr}
use Rattle.std.specs.List.{AllByRecursion}
use Rattle.std.proofs.lemmas.Bool.{cases_Bool}
use Rattle.std.proofs.lemmas.Cmp.{tied_itself, upto}
use Rattle.std.specs.Cmp.{IsTotalOrder}
use Rattle.std.specs.Ordering.{is_le, ordering_reverse}
use Rattle.std.proofs.lemmas.List.Sums.{sum_by-cons, sum_by-append}
use Rattle.std.proofs.lemmas.List.Sorted.{sum_by-IsPermutation}
use Rattle.vm_base.specs.Sorted.{IsOrder, IsUp, SameCounts, put_in, sorted, last_of, later}

-- what holds of each item, and gives more of it
all_more : {X : Type 0} (P Q : X → Type 0) → ((x : X) → P x → Q x)
    → (xs : List X) → AllByRecursion P xs → AllByRecursion Q xs
all_more P Q more [] all = tt
all_more P Q more (x ∷ xs) all = (more x all.0, all_more P Q more xs all.1)

-- what holds of each item holds of each that passes a test
all_filter : {X : Type 0} (P : X → Type 0) (p : X → Bool) (xs : List X)
    → AllByRecursion P xs → AllByRecursion P (filter p xs)
all_filter P p [] all = tt
all_filter P p (x ∷ xs) all =
    elim (p x) as (λ b. AllByRecursion P (cond b (x ∷ filter p xs) (filter p xs)))
    [ true ↦ (all.0, all_filter P p xs all.1) | false ↦ all_filter P p xs all.1 ]

module _ {X : Type 0} (le : X → X → Bool) where
  all_put_in : (P : X → Type 0) (x : X) (xs : List X)
      → P x → AllByRecursion P xs → AllByRecursion P (put_in le x xs)
  all_put_in P x [] h all = (h, tt)
  all_put_in P x (y ∷ ys) h all =
      elim (le x y) as (λ b. AllByRecursion P (cond b (x ∷ y ∷ ys) (y ∷ put_in le x ys)))
      [ true ↦ (h, all) | false ↦ (all.0, all_put_in P x ys h all.1) ]

  -- an item that may stand before all of a list comes before the list's last item
  last_after : (x : X) (ys : List X) → AllByRecursion (λ y. le x y ≡ true) ys
      → last_of (x ∷ ys) ≡ later le (Some x) (last_of ys)
  last_after x [] all = refl
  last_after x (y ∷ []) all = rw (all.0)
  last_after x (y ∷ z ∷ zs) all = last_after x (z ∷ zs) all.1

  pub later-none : (a : Option X) → later le a None ≡ a
  later-none None = refl
  later-none (Some a) = refl

module _ {X : Type 0} (le : X → X → Bool) (order : IsOrder le) where
  -- what may not stand before another may stand after it
  turned : (a b : X) → le a b ≡ false → le b a ≡ true
  turned a b not_before =
      ⊎_elim (λ before. absurd (true≢false (sym before ∙ not_before))) (λ after. after)
      (order.total a b)

  pub later-assoc : (a b c : Option X) → later le (later le a b) c ≡ later le a (later le b c)
  later-assoc None b c = refl
  later-assoc (Some a) None c = refl
  later-assoc (Some a) (Some b) None = refl
  later-assoc (Some a) (Some b) (Some c) = go (le a b) (le b c) refl refl
    where
      first_stays : le a b ≡ false → le b c ≡ false → (if le a c then c else a) ≡ a
      first_stays p q =
          ⊎_elim
          (λ before.
          rw before
          (sym (order.anti a c before (order.chain c b a (turned b c q) (turned a b p)))))
          (λ not_before. rw not_before)
          (cases_Bool (le a c))

      go : (ab bc : Bool) → le a b ≡ ab → le b c ≡ bc
          → later le (Some (if ab then b else a)) (Some c)
          ≡ later le (Some a) (Some (if bc then c else b))
      go true true p q = rw (q, order.chain a b c p q)
      go true false p q = rw (q, p)
      go false true p q = refl
      go false false p q = rw p (ap Some (first_stays p q))

  pub later-comm : (a b : Option X) → later le a b ≡ later le b a
  later-comm None b = sym (later-none le b)
  later-comm (Some a) None = refl
  later-comm (Some a) (Some b) = go (le a b) (le b a) refl refl
    where
      go : (ab ba : Bool) → le a b ≡ ab → le b a ≡ ba
          → Some (if ab then b else a) ≡ Some (if ba then a else b)
      go true true p q = ap Some (order.anti b a q p)
      go true false p q = refl
      go false true p q = refl
      go false false p q = absurd (true≢false (sym (turned a b p) ∙ q))

  -- what stands after y stands after what comes before y
  after_first : (x y : X) (ys : List X) → le x y ≡ true
      → AllByRecursion (λ z. le y z ≡ true) ys → AllByRecursion (λ z. le x z ≡ true) ys
  after_first x y ys before = all_more _ _ (λ z h. order.chain x y z before h) ys

  up-put_in : (x : X) (xs : List X) → IsUp le xs → IsUp le (put_in le x xs)
  up-put_in x [] up = (tt, tt)
  up-put_in x (y ∷ ys) up = go (le x y) refl (up-put_in x ys up.1)
    where
      go : (b : Bool) → le x y ≡ b → IsUp le (put_in le x ys)
          → IsUp le (cond b (x ∷ y ∷ ys) (y ∷ put_in le x ys))
      go true before more = ((before, after_first x y ys before up.0), up)
      go false not_before more =
          (all_put_in le (λ z. le y z ≡ true) x ys (turned x y not_before) up.0, more)

  -- what `sorted` gives is in order
  pub up-sorted : (xs : List X) → IsUp le (sorted le xs)
  up-sorted [] = tt
  up-sorted (x ∷ xs) = up-put_in x (sorted le xs) (up-sorted xs)

  module _ (p : X → Bool) where
    -- the item where it passes
    abbrev passed : X → Option X
    passed x = if p x then Some x else None

    -- the last item that passes
    abbrev last_passed : List X → Option X
    last_passed xs = last_of (filter p xs)

    last-cons : (x : X) (xs : List X) → AllByRecursion (λ y. le x y ≡ true) xs
        → last_passed (x ∷ xs) ≡ later le (passed x) (last_passed xs)
    last-cons x xs all =
        elim (p x) as (λ b. last_of (cond b (x ∷ filter p xs) (filter p xs))
        ≡ later le (if b then Some x else None) (last_passed xs))
        [ true ↦ last_after le x (filter p xs) (all_filter _ p xs all) | false ↦ refl ]

    -- an item put into a list in order becomes the last one that passes only where it is later
    pub last-put_in : (x : X) (xs : List X) → IsUp le xs
        → last_of (filter p (put_in le x xs))
        ≡ later le (if p x then Some x else None) (last_of (filter p xs))
    last-put_in x [] up = last-cons x [] tt
    last-put_in x (y ∷ ys) up = go (le x y) refl (last-put_in x ys up.1)
      where
        go : (b : Bool) → le x y ≡ b
            → last_passed (put_in le x ys) ≡ later le (passed x) (last_passed ys)
            → last_passed (cond b (x ∷ y ∷ ys) (y ∷ put_in le x ys))
            ≡ later le (passed x) (last_passed (y ∷ ys))
        go true before more =
            last-cons x (y ∷ ys) (before, after_first x y ys before up.0)
        go false not_before more =
            last-cons y (put_in le x ys)
            (all_put_in le (λ z. le y z ≡ true) x ys (turned x y not_before) up.0)
            ∙ ap (later le (passed y)) more
            ∙ sym (later-assoc (passed y) (passed x) (last_passed ys))
            ∙ ap (λ first. later le first (last_passed ys)) (later-comm (passed y) (passed x))
            ∙ later-assoc (passed x) (passed y) (last_passed ys)
            ∙ ap (later le (passed x)) (sym (last-cons y ys up.0))

    -- of two lists in order one after the other, the last item that passes is the later of theirs
    pub last_sorted_append : (xs ys : List X)
        → last_of (filter p (sorted le (xs ++ ys)))
        ≡ later le (last_of (filter p (sorted le xs))) (last_of (filter p (sorted le ys)))
    last_sorted_append [] ys = refl
    last_sorted_append (x ∷ xs) ys =
        last-put_in x (sorted le (xs ++ ys)) (up-sorted (xs ++ ys))
        ∙ ap (later le (passed x)) (last_sorted_append xs ys)
        ∙ sym (later-assoc (passed x) (last_passed (sorted le xs)) (last_passed (sorted le ys)))
        ∙ ap (λ first. later le first (last_passed (sorted le ys)))
        (sym (last-put_in x (sorted le xs) (up-sorted xs)))

-- counts

module _ {X : Type 0} where
  -- one for an item that passes
  abbrev one_if : (X → Bool) → X → ℕ
  one_if p x = cond (p x) 1 0

  pub count-cons : (p : X → Bool) (x : X) (xs : List X)
      → count_by p (x ∷ xs) ≡ cond (p x) 1 0 + count_by p xs
  count-cons p = sum_by-cons (one_if p)

  pub counts-sym : (xs ys : List X) → SameCounts xs ys → SameCounts ys xs
  counts-sym xs ys same p = sym (same p)

  pub counts-trans : (xs ys zs : List X) → SameCounts xs ys → SameCounts ys zs → SameCounts xs zs
  counts-trans xs ys zs first second p = first p ∙ second p

  pub counts-cons : (x : X) (xs ys : List X) → SameCounts xs ys → SameCounts (x ∷ xs) (x ∷ ys)
  counts-cons x xs ys same p = omega (arith, count-cons p x xs, count-cons p x ys, same p)

  -- an item that stands first in both lists cancels
  pub counts-tail : (x : X) (xs ys : List X) → SameCounts (x ∷ xs) (x ∷ ys) → SameCounts xs ys
  counts-tail x xs ys same p = omega (arith, count-cons p x xs, count-cons p x ys, same p)

  pub counts-append : (xs ys us vs : List X) → SameCounts xs ys → SameCounts us vs
      → SameCounts (xs ++ us) (ys ++ vs)
  counts-append xs ys us vs first second p =
      omega (
        arith,
        sum_by-append (one_if p) xs us,
        sum_by-append (one_if p) ys vs,
        first p,
        second p,
      )

  pub counts-swap : (x y : X) (xs : List X) → SameCounts (x ∷ y ∷ xs) (y ∷ x ∷ xs)
  counts-swap x y xs p =
      let first = count-cons p x (y ∷ xs) in
      let second = count-cons p y (x ∷ xs) in
      omega (arith, first, second, count-cons p y xs, count-cons p x xs)

  pub counts_from_permutation : (xs ys : List X) → IsPermutation xs ys → SameCounts xs ys
  counts_from_permutation xs ys same p = sym (sum_by-IsPermutation (one_if p) xs ys same)

  count_none : (p : X → Bool) (xs : List X) → AllByRecursion (λ x. p x ≡ false) xs
      → count_by p xs ≡ 0
  count_none p [] all = refl
  count_none p (x ∷ xs) all =
      let here : one_if p x ≡ 0 = ap (λ b. cond b 1 0) all.0 in
      omega (arith, count-cons p x xs, here, count_none p xs all.1)

module _ {X : Type 0} (le : X → X → Bool) where
  counts-put_in : (x : X) (xs : List X) → SameCounts (put_in le x xs) (x ∷ xs)
  counts-put_in x [] = λ p. refl
  counts-put_in x (y ∷ ys) =
      elim (le x y) as (λ b. SameCounts (cond b (x ∷ y ∷ ys) (y ∷ put_in le x ys)) (x ∷ y ∷ ys)) [
        | true ↦ λ p. refl
        | false ↦ counts-trans (y ∷ put_in le x ys) (y ∷ x ∷ ys) (x ∷ y ∷ ys)
            (counts-cons y (put_in le x ys) (x ∷ ys) (counts-put_in x ys))
            (counts-swap y x ys)
      ]

  -- `sorted` keeps how often each item is in the list
  pub counts-sorted : (xs : List X) → SameCounts (sorted le xs) xs
  counts-sorted [] = λ p. refl
  counts-sorted (x ∷ xs) =
      counts-trans (put_in le x (sorted le xs)) (x ∷ sorted le xs) (x ∷ xs)
      (counts-put_in x (sorted le xs))
      (counts-cons x (sorted le xs) xs (counts-sorted xs))

module _ {X : Type 0} (le : X → X → Bool) (order : IsOrder le) where
  none_before : (x y : X) (ys : List X) → le y x ≡ false
      → AllByRecursion (λ z. le y z ≡ true) ys → AllByRecursion (λ z. le z x ≡ false) ys
  none_before x y ys apart = all_more _ _ (λ z after. go z after (le z x) refl) ys
    where
      go : (z : X) → le y z ≡ true → (b : Bool) → le z x ≡ b → le z x ≡ false
      go z after true before = absurd (true≢false (sym (order.chain y z x after before) ∙ apart))
      go z after false not_before = not_before

  -- the first item of a list in order may stand before each item that the list holds
  first_before : (x y : X) (xs ys : List X) → IsUp le (y ∷ ys)
      → SameCounts (x ∷ xs) (y ∷ ys) → le y x ≡ true
  first_before x y xs ys up same =
      ⊎_elim
      (λ before. before)
      (λ apart.
      let p : X → Bool = λ z. le z x in
      let here : one_if p x ≡ 1 = ap (λ b. cond b 1 0) (order.same x) in
      let none = count_none p (y ∷ ys) (apart, none_before x y ys apart up.0) in
      absurd (omega (arith, count-cons p x xs, here, same p, none)))
      (cases_Bool (le y x))

  -- two lists in order that hold each item equally often are one list
  pub one_order : (xs ys : List X) → IsUp le xs → IsUp le ys → SameCounts xs ys → xs ≡ ys
  one_order [] [] up up' same = refl
  one_order [] (y ∷ ys) up up' same =
      absurd (omega (arith, count-cons (λ _. true) y ys, same (λ _. true)))
  one_order (x ∷ xs) [] up up' same =
      absurd (omega (arith, count-cons (λ _. true) x xs, same (λ _. true)))
  one_order (x ∷ xs) (y ∷ ys) up up' same =
      let first = first_before y x ys xs up (counts-sym (x ∷ xs) (y ∷ ys) same) in
      let here : x ≡ y = order.anti x y first (first_before x y xs ys up' same) in
      let alike : SameCounts (x ∷ xs) (x ∷ ys) =
      subst (λ z. SameCounts (x ∷ xs) (z ∷ ys)) (sym here) same in
      ap₂ ◌∷◌ here (one_order xs ys up.1 up'.1 (counts-tail x xs ys alike))

  -- a list in order that holds what xs holds is `sorted` of xs
  pub sorted_from_up : (xs ys : List X) → IsUp le ys → SameCounts xs ys → ys ≡ sorted le xs
  sorted_from_up xs ys up same =
      one_order ys (sorted le xs) up (up-sorted le order xs)
      (λ p. sym (counts-sorted le xs p ∙ same p))

  -- lists that hold each item equally often have one order
  pub sorted-same_counts : (xs ys : List X) → SameCounts xs ys → sorted le xs ≡ sorted le ys
  sorted-same_counts xs ys same =
      sorted_from_up ys (sorted le xs) (up-sorted le order xs)
      (λ p. sym (counts-sorted le xs p ∙ same p))

  -- a list in order stays as it is
  pub sorted-up : (xs : List X) → IsUp le xs → sorted le xs ≡ xs
  sorted-up xs up = sym (sorted_from_up xs xs up (λ p. refl))

-- what std's sorts ensure

module _ {X : Type 0} (le : X → X → Bool) (order : IsOrder le) (lt : X → X → Bool)
    (opposed : (a b : X) → lt b a ≡ false → le a b ≡ true) where
  -- of neighbours that are in order each is in order with all after it
  pub up_from_sorted_by : (xs : List X) → IsSortedBy lt xs → IsUp le xs
  up_from_sorted_by [] rises = tt
  up_from_sorted_by (x ∷ xs) rises =
      let tail : IsSortedBy lt xs = λ k d p q.
      rw add-one (rw add-one at (rises (suc k) d (omega arith) (omega arith))) in
      let up = up_from_sorted_by xs tail in
      (before_all xs rises up, up)
    where
      before_all : (ys : List X) → IsSortedBy lt (x ∷ ys) → IsUp le ys
          → AllByRecursion (λ y. le x y ≡ true) ys
      before_all [] rises up = tt
      before_all (y ∷ ys) rises up =
          let first : le x y ≡ true = opposed x y (rises 0 x (omega arith) (omega arith)) in
          (first, after_first le order x y ys first up.0)

  pub sorted_from_sort_by : (xs ys : List X) → IsPermutation xs ys → IsSortedBy lt ys
      → ys ≡ sorted le xs
  sorted_from_sort_by xs ys same rises =
      sorted_from_up le order xs ys (up_from_sorted_by ys rises)
      (counts_from_permutation xs ys same)

not_greater : (o : Ordering) → is_lt (ordering_reverse o) ≡ false → is_le o ≡ true
not_greater Less h = refl
not_greater Equal h = refl
not_greater Greater h = absurd (true≢false h)

module _ {X : Type 0} (cmp : X → X → Ordering) (total : IsTotalOrder cmp)
    (le : X → X → Bool) (is : (a b : X) → le a b ≡ is_le (cmp a b)) where
  -- what `sort` ensures, where `le` is "not greater" by the `cmp` of the items' type
  pub sorted_from_sort : IsOrder le → (xs ys : List X) → IsPermutation xs ys → IsSorted cmp ys
      → ys ≡ sorted le xs
  sorted_from_sort order = sorted_from_sort_by le order (λ a b. is_lt (cmp a b))
      (λ a b h. is a b ∙ not_greater (cmp a b) (ap is_lt (sym (total.antisymm b a)) ∙ h))

-- A `cmp` that is `Equal` of equal items alone gives an order.
module _ {X : Type 0} (cmp : X → X → Ordering) (total : IsTotalOrder cmp)
    (apart : (a b : X) → cmp a b ≡ Equal → a ≡ b) where
  not_gt : (o : Ordering) → is_le o ≡ true → is_gt o ≡ false
  not_gt Less h = refl
  not_gt Equal h = refl
  not_gt Greater h = absurd (true≢false (sym h))

  le_again : (o : Ordering) → is_gt o ≡ false → is_le o ≡ true
  le_again Less h = refl
  le_again Equal h = refl
  le_again Greater h = absurd (true≢false h)

  level : (o : Ordering) → is_le o ≡ true → is_le (ordering_reverse o) ≡ true → o ≡ Equal
  level Less h k = absurd (true≢false (sym k))
  level Equal h k = refl
  level Greater h k = absurd (true≢false (sym h))

  either : (o : Ordering) → (is_le o ≡ true) ⊎ (is_le (ordering_reverse o) ≡ true)
  either Less = inl refl
  either Equal = inl refl
  either Greater = inr refl

  pub order_from_cmp : IsOrder (λ a b. is_le (cmp a b))
  order_from_cmp = record {
    same = λ a. ap is_le (tied_itself total a);
    chain = λ a b c p q.
        le_again (cmp a c) (upto total a b c (not_gt (cmp a b) p) (not_gt (cmp b c) q));
    anti = λ a b p q. apart a b (level (cmp a b) p (ap is_le (sym (total.antisymm b a)) ∙ q));
    total = λ a b. ⊎_elim inl (λ h. inr (ap is_le (total.antisymm b a) ∙ h)) (either (cmp a b));
  }
