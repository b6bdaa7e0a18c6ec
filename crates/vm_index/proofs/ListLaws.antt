-- Laws of lists that rise, of what is said of each item, and of filters.
use Rattle.std.proofs.Common.{◌≡◌, ℕ, zero, suc, ◌+◌, ◌-◌, ◌≤◌, Bool, true, false, cond, List, [], ◌∷◌, ◌++◌, ◌<◌, length, get_or, take, drop, drop-cons, add-one, filter, nat_lt, not, Some, None, refl, sym, ap, ◌∙◌, subst, arith, unwrap_or}
use Rattle.std.specs.Prelude.{position}
use Rattle.std.specs.List.{AllByRecursion, prefix_len, position_or_len}
use Rattle.std.proofs.lemmas.Bool.{ltb-false}
use Rattle.std.proofs.lemmas.List.{take_more, length-drop}
use Rattle.std.proofs.Math.Seq.{take-length}
use Rattle.vm_base.specs.Sorted.{IsUp}

module _ {X : Type 0} where
  pub all_more : (P Q : X → Type 0) → ((x : X) → P x → Q x) → (xs : List X) → AllByRecursion P xs
      → AllByRecursion Q xs
  all_more P Q more [] all = tt
  all_more P Q more (x ∷ xs) all = (more x all.0, all_more P Q more xs all.1)

  pub all_append : (P : X → Type 0) (xs ys : List X) → AllByRecursion P xs → AllByRecursion P ys
      → AllByRecursion P (xs ++ ys)
  all_append P [] ys all others = others
  all_append P (x ∷ xs) ys all others = (all.0, all_append P xs ys all.1 others)

  pub all_filter : (P : X → Type 0) (p : X → Bool) (xs : List X) → AllByRecursion P xs
      → AllByRecursion P (filter p xs)
  all_filter P p [] all = tt
  all_filter P p (x ∷ xs) all =
      elim (p x) as (λ b. AllByRecursion P (cond b (x ∷ filter p xs) (filter p xs)))
      [ true ↦ (all.0, all_filter P p xs all.1) | false ↦ all_filter P p xs all.1 ]

  -- what a filter leaves passes its test
  pub all_own : (p : X → Bool) (xs : List X) → AllByRecursion (λ x. p x ≡ true) (filter p xs)
  all_own p [] = tt
  all_own p (x ∷ xs) = go (p x) refl (all_own p xs)
    where
      go : (b : Bool) → p x ≡ b → AllByRecursion (λ y. p y ≡ true) (filter p xs)
          → AllByRecursion (λ y. p y ≡ true) (cond b (x ∷ filter p xs) (filter p xs))
      go true passes more = (passes, more)
      go false fails more = more

  pub all_drop : (P : X → Type 0) (k : ℕ) (xs : List X) → AllByRecursion P xs
      → AllByRecursion P (drop k xs)
  all_drop P zero xs all = all
  all_drop P (suc k) [] all = tt
  all_drop P (suc k) (x ∷ xs) all = all_drop P k xs all.1

  pub filter_all : (p : X → Bool) (xs : List X) → AllByRecursion (λ x. p x ≡ true) xs
      → filter p xs ≡ xs
  filter_all p [] all = refl
  filter_all p (x ∷ xs) all = rw (all.0) (ap (λ ys. x ∷ ys) (filter_all p xs all.1))

  pub filter_none : (p : X → Bool) (xs : List X) → AllByRecursion (λ x. p x ≡ false) xs
      → filter p xs ≡ []
  filter_none p [] all = refl
  filter_none p (x ∷ xs) all = rw (all.0) (filter_none p xs all.1)

  -- tests that agree on each item keep the same items
  pub filter_same : (p q : X → Bool) (xs : List X) → AllByRecursion (λ x. p x ≡ q x) xs
      → filter p xs ≡ filter q xs
  filter_same p q [] all = refl
  filter_same p q (x ∷ xs) all =
      ap (λ b. cond b (x ∷ filter p xs) (filter p xs)) all.0
      ∙ ap (λ ys. cond (q x) (x ∷ ys) ys) (filter_same p q xs all.1)

  -- ---- lists that rise by a test

  module _ (lt : X → X → Bool) where
    pub up_drop : (k : ℕ) (xs : List X) → IsUp lt xs → IsUp lt (drop k xs)
    up_drop zero xs up = up
    up_drop (suc k) [] up = tt
    up_drop (suc k) (x ∷ xs) up = up_drop k xs up.1

    pub up_filter : (p : X → Bool) (xs : List X) → IsUp lt xs → IsUp lt (filter p xs)
    up_filter p [] up = tt
    up_filter p (x ∷ xs) up =
        elim (p x) as (λ b. IsUp lt (cond b (x ∷ filter p xs) (filter p xs))) [
          | true ↦ (all_filter (λ y. lt x y ≡ true) p xs up.0, up_filter p xs up.1)
          | false ↦ up_filter p xs up.1
        ]

  -- ---- the first place where a test passes

  pub prefix_within : (p : X → Bool) (xs : List X) → prefix_len p xs ≤ length xs
  prefix_within p [] = omega arith
  prefix_within p (x ∷ xs) = go (p x) (prefix_within p xs)
    where
      go : (b : Bool) → prefix_len p xs ≤ length xs
          → cond b (1 + prefix_len p xs) 0 ≤ suc (length xs)
      go true more = omega arith
      go false more = omega arith

  pub position_is : (p : X → Bool) (xs : List X)
      → unwrap_or (position p xs) (length xs) ≡ position_or_len p xs
  position_is p xs = go (nat_lt (position_or_len p xs) (length xs)) refl
    where
      go : (b : Bool) → nat_lt (position_or_len p xs) (length xs) ≡ b
          → unwrap_or (cond b (Some (position_or_len p xs)) None) (length xs) ≡ position_or_len p xs
      go true h = refl
      go false h =
          omega (
            arith,
            ltb-false (position_or_len p xs) (length xs) h,
            prefix_within (λ x. not (p x)) xs,
          )

module _ {X : Type 0} where
  -- a loop's step over a list: the item at the place comes first of those that are left
  pub at_item : (xs : List X) (i : ℕ) (x : X) → i < length xs → x ≡ get_or xs i x
      → drop i xs ≡ x ∷ drop (i + 1) xs
  at_item xs i x within is =
      rw add-one (drop-cons xs i x within ∙ ap (λ y. y ∷ drop (suc i) xs) (sym is))

  -- and joins those that were looked at
  pub all_taken : (P : X → Type 0) (xs : List X) (i : ℕ) (x : X) → i < length xs → x ≡ get_or xs i x
      → P x
      → AllByRecursion P (take i xs) → AllByRecursion P (take (i + 1) xs)
  all_taken P xs i x within is holds all =
      subst (AllByRecursion P) (sym (take_more xs i x within))
      (all_append P (take i xs) (get_or xs i x ∷ []) all (subst P is holds, tt))

  -- the rest of a list, cut where the list ends
  pub rest_whole : (xs : List X) (i : ℕ) → take (length xs - i) (drop i xs) ≡ drop i xs
  rest_whole xs i = ap (λ n. take n (drop i xs)) (sym (length-drop i xs)) ∙ take-length (drop i xs)
