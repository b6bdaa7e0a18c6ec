-- Lists that are sorted or thinned, and of which each item is kept once: what holds of each item,
-- and how often an item stands there.
use Rattle.std.proofs.Common.{◌≡◌, ℕ, suc, ◌+◌, ◌<◌, ◌&&◌, ◌||◌, Bool, true, false, cond, List, [], ◌∷◌, ◌++◌, length, map, filter, flat_map, count_by, sum_by, IsPermutation, refl, sym, ap, ap₂, ◌∙◌, arith}
use Rattle.std.specs.Bool.{Decides}
use Rattle.std.specs.List.{AllByRecursion, dedup, dedup_from, list_any}
use Rattle.std.proofs.lemmas.List.Sums.{sum_by-append, sum_by-cons}
use Rattle.std.proofs.lemmas.List.Sorted.{sum_by-IsPermutation}
use Rattle.vm_base.specs.Sorted.{IsOrder, IsUp, SameCounts, put_in, sorted}
use Rattle.vm_base.specs.Stamped.{is_in_order}
use Rattle.vm_base.specs.Thinned.{is_one_interval, thinned}
use Rattle.vm_base.specs.declared.stamped.Stamped.{Stamped}
use Rattle.vm_base.proofs.SortedLaws.{count-cons, counts-append, counts-sorted, sorted_from_up, up-sorted}
use Rattle.vm_index.proofs.DistinctLaws.{all_deduped}
use Rattle.vm_index.proofs.ListLaws.{all_append, all_more}

-- ---- what holds of each item

both_false : (a b : Bool) → (a || b) ≡ false → (a ≡ false) × (b ≡ false)
both_false true b none = absurd cc
both_false false b none = (refl, none)

module _ {X : Type 0} (P : X → Type 0) where
  pub all_of : ((x : X) → P x) → (xs : List X) → AllByRecursion P xs
  all_of each [] = tt
  all_of each (x ∷ xs) = (each x, all_of each xs)

  all_put_in : (le : X → X → Bool) (x : X) (ys : List X) → P x → AllByRecursion P ys
      → AllByRecursion P (put_in le x ys)
  all_put_in le x [] first all = (first, tt)
  all_put_in le x (y ∷ ys) first all =
      elim (le x y) as (λ b. AllByRecursion P (cond b (x ∷ y ∷ ys) (y ∷ put_in le x ys)))
      [ true ↦ (first, all) | false ↦ (all.0, all_put_in le x ys first all.1) ]

  pub all_sorted : (le : X → X → Bool) (xs : List X) → AllByRecursion P xs
      → AllByRecursion P (sorted le xs)
  all_sorted le [] all = tt
  all_sorted le (x ∷ xs) all = all_put_in le x (sorted le xs) all.0 (all_sorted le xs all.1)

  pub all_once : (eq : X → X → Bool) (xs : List X) → AllByRecursion P xs
      → AllByRecursion P (dedup eq xs)
  all_once eq [] all = tt
  all_once eq (x ∷ xs) all = all_deduped eq P x xs all.0 all.1

  pub all_map : {Y : Type 0} (f : Y → X) (ys : List Y) → AllByRecursion (λ y. P (f y)) ys
      → AllByRecursion P (map f ys)
  all_map f [] all = tt
  all_map f (y ∷ ys) all = (all.0, all_map f ys all.1)

  pub all_mapped : {Y : Type 0} (f : Y → X) (ys : List Y) → AllByRecursion P (map f ys)
      → AllByRecursion (λ y. P (f y)) ys
  all_mapped f [] all = tt
  all_mapped f (y ∷ ys) all = (all.0, all_mapped f ys all.1)

  pub all_flat_map : {Y : Type 0} (f : Y → List X) (ys : List Y)
      → AllByRecursion (λ y. AllByRecursion P (f y)) ys
      → AllByRecursion P (flat_map f ys)
  all_flat_map f [] all = tt
  all_flat_map f (y ∷ ys) all = all_append P (f y) (flat_map f ys) all.0 (all_flat_map f ys all.1)

-- a test that no item passes
module _ {X : Type 0} (t : X → Bool) where
  pub none_any : (xs : List X) → AllByRecursion (λ x. t x ≡ false) xs → list_any t xs ≡ false
  none_any [] none = refl
  none_any (x ∷ xs) none = rw (none.0) (none_any xs none.1)

  pub any_none : (xs : List X) → list_any t xs ≡ false → AllByRecursion (λ x. t x ≡ false) xs
  any_none [] none = tt
  any_none (x ∷ xs) none =
      let both = both_false (t x) (list_any t xs) none in
      (both.0, any_none xs both.1)

-- what holds of each item of a list with each of another
module _ {X Y : Type 0} (R : X → Y → Type 0) where
  pub all_turned : (xs : List X) (ys : List Y) → AllByRecursion (λ x. AllByRecursion (R x) ys) xs
      → AllByRecursion (λ y. AllByRecursion (λ x. R x y) xs) ys
  all_turned xs [] all = tt
  all_turned xs (y ∷ ys) all =
      (all_more _ _ (λ x h. h.0) xs all, all_turned xs ys (all_more _ _ (λ x h. h.1) xs all))

-- functions that agree on each item give the same list
pub map_same : {X Y : Type 0} (f g : X → Y) (xs : List X) → AllByRecursion (λ x. f x ≡ g x) xs
    → map f xs ≡ map g xs
map_same f g [] all = refl
map_same f g (x ∷ xs) all = ap₂ ◌∷◌ all.0 (map_same f g xs all.1)

-- ---- how many items there are

length-put_in : {X : Type 0} (le : X → X → Bool) (x : X) (ys : List X)
    → length (put_in le x ys) ≡ suc (length ys)
length-put_in le x [] = refl
length-put_in le x (y ∷ ys) =
    elim (le x y) as (λ b. length (cond b (x ∷ y ∷ ys) (y ∷ put_in le x ys))
    ≡ suc (suc (length ys)))
    [ true ↦ refl | false ↦ ap suc (length-put_in le x ys) ]

pub length-sorted : {X : Type 0} (le : X → X → Bool) (xs : List X)
    → length (sorted le xs) ≡ length xs
length-sorted le [] = refl
length-sorted le (x ∷ xs) = length-put_in le x (sorted le xs) ∙ ap suc (length-sorted le xs)

pub some_thinned : (d : ℕ) (samples : List Stamped) → 0 < length samples
    → 0 < length (thinned d samples)
some_thinned d [] some = absurd (omega arith)
some_thinned d (a ∷ []) some = omega arith
some_thinned d (a ∷ b ∷ more) some =
    elim (is_one_interval d a b) as (λ c. 0
    < length (cond c (thinned d (b ∷ more)) (a ∷ thinned d (b ∷ more))))
    [ true ↦ some_thinned d (b ∷ more) (omega arith) | false ↦ omega arith ]

-- ---- samples that were thinned

pub all_thinned : (P : Stamped → Type 0) (d : ℕ) (samples : List Stamped) → AllByRecursion P samples
    → AllByRecursion P (thinned d samples)
all_thinned P d [] all = tt
all_thinned P d (a ∷ []) all = all
all_thinned P d (a ∷ b ∷ more) all =
    elim (is_one_interval d a b) as (λ c.
    AllByRecursion P (cond c (thinned d (b ∷ more)) (a ∷ thinned d (b ∷ more))))
    [ true ↦ all_thinned P d (b ∷ more) all.1 | false ↦ (all.0, all_thinned P d (b ∷ more) all.1) ]

pub up_thinned : (d : ℕ) (samples : List Stamped) → IsUp is_in_order samples
    → IsUp is_in_order (thinned d samples)
up_thinned d [] up = tt
up_thinned d (a ∷ []) up = up
up_thinned d (a ∷ b ∷ more) up =
    elim (is_one_interval d a b) as (λ c.
    IsUp is_in_order (cond c (thinned d (b ∷ more)) (a ∷ thinned d (b ∷ more)))) [
      | true ↦ up_thinned d (b ∷ more) up.1
      | false ↦ (
        all_thinned (λ s. is_in_order a s ≡ true) d (b ∷ more) up.0,
        up_thinned d (b ∷ more) up.1,
      )
    ]

-- ---- how often an item stands in a list

count-map : {X Y : Type 0} (f : X → Y) (t : Y → Bool) (xs : List X)
    → count_by t (map f xs) ≡ count_by (λ x. t (f x)) xs
count-map f t [] = refl
count-map f t (x ∷ xs) =
    count-cons t (f x) (map f xs) ∙ ap (λ n. cond (t (f x)) 1 0 + n) (count-map f t xs)
    ∙ sym (count-cons (λ y. t (f y)) x xs)

pub counts-map : {X Y : Type 0} (f : X → Y) (xs ys : List X) → SameCounts xs ys
    → SameCounts (map f xs) (map f ys)
counts-map f xs ys same t = count-map f t xs ∙ same (λ x. t (f x)) ∙ sym (count-map f t ys)

count-filter : {X : Type 0} (p t : X → Bool) (xs : List X)
    → count_by t (filter p xs) ≡ count_by (λ x. p x && t x) xs
count-filter p t [] = refl
count-filter p t (x ∷ xs) = go (p x) (count-filter p t xs) ∙ sym (count-cons (λ y. p y && t y) x xs)
  where
    go : (b : Bool) → count_by t (filter p xs) ≡ count_by (λ y. p y && t y) xs
        → count_by t (cond b (x ∷ filter p xs) (filter p xs)) ≡ cond (b && t x) 1 0
        + count_by (λ y. p y && t y) xs
    go true more = count-cons t x (filter p xs) ∙ ap (λ n. cond (t x) 1 0 + n) more
    go false more = omega (arith, more)

pub counts-filter : {X : Type 0} (p : X → Bool) (xs ys : List X) → SameCounts xs ys
    → SameCounts (filter p xs) (filter p ys)
counts-filter p xs ys same t = count-filter p t xs ∙ same (λ x. p x && t x)
    ∙ sym (count-filter p t ys)

count-flat_map : {X Y : Type 0} (f : X → List Y) (t : Y → Bool) (xs : List X)
    → count_by t (flat_map f xs) ≡ sum_by (λ x. count_by t (f x)) xs
count-flat_map f t [] = refl
count-flat_map f t (x ∷ xs) =
    sum_by-append (λ y. cond (t y) 1 0) (f x) (flat_map f xs)
    ∙ ap (λ n. count_by t (f x) + n) (count-flat_map f t xs)
    ∙ sym (sum_by-cons (λ y. count_by t (f y)) x xs)

-- a list in another order has the same items of its items
pub counts-flat_map : {X Y : Type 0} (f : X → List Y) (xs ys : List X) → IsPermutation xs ys
    → SameCounts (flat_map f xs) (flat_map f ys)
counts-flat_map f xs ys same t =
    count-flat_map f t xs ∙ sym (sum_by-IsPermutation (λ x. count_by t (f x)) xs ys same)
    ∙ sym (count-flat_map f t ys)

-- ---- one list before another

module _ {X : Type 0} (le : X → X → Bool) where
  abbrev pub AllUpto : List X → List X → Type 0
  AllUpto xs ys = AllByRecursion (λ x. AllByRecursion (λ y. le x y ≡ true) ys) xs

  up-append : (xs ys : List X) → IsUp le xs → IsUp le ys → AllUpto xs ys → IsUp le (xs ++ ys)
  up-append [] ys up others all = others
  up-append (x ∷ xs) ys up others all =
      (all_append (λ y. le x y ≡ true) xs ys up.0 all.0, up-append xs ys up.1 others all.1)

  pub sorted-append : IsOrder le → (xs ys : List X) → AllUpto xs ys
      → sorted le (xs ++ ys) ≡ sorted le xs ++ sorted le ys
  sorted-append order xs ys all =
      sym (sorted_from_up le order (xs ++ ys) (sorted le xs ++ sorted le ys)
      (up-append (sorted le xs) (sorted le ys) (up-sorted le order xs) (up-sorted le order ys)
      (all_sorted (λ x. AllByRecursion (λ y. le x y ≡ true) (sorted le ys)) le xs
      (all_more _ _ (λ x h. all_sorted (λ y. le x y ≡ true) le ys h) xs all)))
      (λ t. sym
      (counts-append (sorted le xs) xs (sorted le ys) ys (counts-sorted le xs)
      (counts-sorted le ys) t)))

module _ {X : Type 0} (eq : X → X → Bool) where
  abbrev pub AllApart : List X → List X → Type 0
  AllApart xs ys = AllByRecursion (λ x. AllByRecursion (λ y. eq y x ≡ false) ys) xs

  begun-append : (k : X) (ys : List X) → AllByRecursion (λ y. eq y k ≡ false) ys
      → dedup_from eq k ys ≡ k ∷ dedup eq ys
  begun-append k [] apart = refl
  begun-append k (y ∷ ys) apart = rw (apart.0)

  from-append : (k : X) (xs ys : List X) → AllApart (k ∷ xs) ys
      → dedup_from eq k (xs ++ ys) ≡ dedup_from eq k xs ++ dedup eq ys
  from-append k [] ys apart = begun-append k ys apart.0
  from-append k (x ∷ xs) ys apart =
      go (eq x k) (from-append k xs ys (apart.0, apart.1.1)) (from-append x xs ys apart.1)
    where
      go : (b : Bool) → dedup_from eq k (xs ++ ys) ≡ dedup_from eq k xs ++ dedup eq ys
          → dedup_from eq x (xs ++ ys) ≡ dedup_from eq x xs ++ dedup eq ys
          → cond b (dedup_from eq k (xs ++ ys)) (k ∷ dedup_from eq x (xs ++ ys))
          ≡ cond b (dedup_from eq k xs) (k ∷ dedup_from eq x xs) ++ dedup eq ys
      go true less more = less
      go false less more = ap (λ zs. k ∷ zs) more

  -- what is kept of two lists that share no item
  pub dedup-append : (xs ys : List X) → AllApart xs ys → dedup eq (xs ++ ys) ≡ dedup eq xs
      ++ dedup eq ys
  dedup-append [] ys apart = refl
  dedup-append (x ∷ xs) ys apart = from-append x xs ys apart

  module _ (decides : (a b : X) → Decides (eq a b) (a ≡ b)) where
    from_alike : (k : X) (xs : List X) → AllByRecursion (λ x. x ≡ k) xs
        → dedup_from eq k xs ≡ k ∷ []
    from_alike k [] all = refl
    from_alike k (x ∷ xs) all =
        let same : eq x k ≡ true = (decides x k).1 all.0 in
        rw same (from_alike k xs all.1)

    -- what is kept of items that are all the same
    pub dedup_alike : (k : X) (xs : List X) → 0 < length xs → AllByRecursion (λ x. x ≡ k) xs
        → dedup eq xs ≡ k ∷ []
    dedup_alike k [] some all = absurd (omega arith)
    dedup_alike k (x ∷ xs) some all = ap (λ z. dedup_from eq z xs) all.0 ∙ from_alike k xs all.1
