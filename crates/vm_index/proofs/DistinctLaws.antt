-- Lists in order of which each item is kept once: they are strictly in order, and hold what was
-- held.
use Rattle.std.proofs.Common.{◌≡◌, Bool, true, false, cond, ◌||◌, List, [], ◌∷◌, ◌++◌, Option, refl, sym, ap, ◌∙◌, subst, true≢false}
use Rattle.std.specs.Bool.{Decides}
use Rattle.std.specs.Cmp.{IsTotalOrder}
use Rattle.std.specs.List.{AllByRecursion, list_any, dedup_from, dedup}
use Rattle.std.specs.Option.{option_map_or}
use Rattle.std.specs.Ordering.{is_lt, is_le}
use Rattle.std.specs.declared.cmp.Ordering.{Ordering}
use Rattle.std.specs.declared.cmp.Ordering.TheVariants.{Less, Equal, Greater}
use Rattle.std.proofs.lemmas.Cmp.{tied_itself}
use Rattle.vm_base.specs.Sorted.{IsOrder, IsUp, last_of, put_in, sorted}
use Rattle.vm_base.proofs.SortedLaws.{order_from_cmp}
use Rattle.vm_index.proofs.ListLaws.{all_more}

-- ---- what holds of some item

module _ {X : Type 0} (le : X → X → Bool) (t : X → Bool) where
  any_put_in : (x : X) (ys : List X) → list_any t (put_in le x ys) ≡ (t x || list_any t ys)
  any_put_in x [] = refl
  any_put_in x (y ∷ ys) = go (le x y) (any_put_in x ys)
    where
      swap : (a b c : Bool) → (a || (b || c)) ≡ (b || (a || c))
      swap true true c = refl
      swap true false c = refl
      swap false true c = refl
      swap false false c = refl

      go : (b : Bool) → list_any t (put_in le x ys) ≡ (t x || list_any t ys)
          → list_any t (cond b (x ∷ y ∷ ys) (y ∷ put_in le x ys)) ≡ (t x || (t y || list_any t ys))
      go true more = refl
      go false more = ap (λ b. t y || b) more ∙ swap (t y) (t x) (list_any t ys)

  pub any_sorted : (xs : List X) → list_any t (sorted le xs) ≡ list_any t xs
  any_sorted [] = refl
  any_sorted (x ∷ xs) = any_put_in x (sorted le xs) ∙ ap (λ b. t x || b) (any_sorted xs)

module _ {X : Type 0} (eq : X → X → Bool) (decides : (a b : X) → Decides (eq a b) (a ≡ b))
    (t : X → Bool) where
  any_deduped : (k : X) (xs : List X) → list_any t (dedup_from eq k xs) ≡ (t k || list_any t xs)
  any_deduped k [] = refl
  any_deduped k (x ∷ xs) = go (eq x k) refl (any_deduped k xs) (any_deduped x xs)
    where
      once : (a b : Bool) → (a || b) ≡ (a || (a || b))
      once true b = refl
      once false b = refl

      go : (b : Bool) → eq x k ≡ b → list_any t (dedup_from eq k xs) ≡ (t k || list_any t xs)
          → list_any t (dedup_from eq x xs) ≡ (t x || list_any t xs)
          → list_any t (cond b (dedup_from eq k xs) (k ∷ dedup_from eq x xs))
          ≡ (t k || (t x || list_any t xs))
      go true same less more =
          less ∙ once (t k) (list_any t xs)
          ∙ ap (λ y. t k || (t y || list_any t xs)) (sym ((decides x k).0 same))
      go false apart less more = ap (λ b. t k || b) more

  pub any_dedup : (xs : List X) → list_any t (dedup eq xs) ≡ list_any t xs
  any_dedup [] = refl
  any_dedup (x ∷ xs) = any_deduped x xs

-- ---- what is kept

module _ {X : Type 0} (eq : X → X → Bool) where
  -- what is kept begins with the first item
  pub begun : (k : X) (xs : List X) → (rest : List X) × (dedup_from eq k xs ≡ k ∷ rest)
  begun k [] = ([], refl)
  begun k (x ∷ xs) = go (eq x k) (begun k xs)
    where
      go : (b : Bool) → (rest : List X) × (dedup_from eq k xs ≡ k ∷ rest)
          → (rest : List X) × (cond b (dedup_from eq k xs) (k ∷ dedup_from eq x xs) ≡ k ∷ rest)
      go true more = more
      go false more = (dedup_from eq x xs, refl)

  pub all_deduped : (P : X → Type 0) (k : X) (xs : List X) → P k → AllByRecursion P xs
      → AllByRecursion P (dedup_from eq k xs)
  all_deduped P k [] first all = (first, tt)
  all_deduped P k (x ∷ xs) first all =
      elim (eq x k) as (λ b.
      AllByRecursion P (cond b (dedup_from eq k xs) (k ∷ dedup_from eq x xs)))
      [ true ↦ all_deduped P k xs first all.1 | false ↦ (first, all_deduped P x xs all.0 all.1) ]

  -- whether an item is the last one
  abbrev pub is_end : Option X → X → Bool
  is_end last x = option_map_or (eq x) last false

  more_from : (k : X) (xs : List X) (x : X)
      → dedup_from eq k (xs ++ x ∷ [])
      ≡ cond (is_end (last_of (dedup_from eq k xs)) x) (dedup_from eq k xs)
      (dedup_from eq k xs ++ x ∷ [])
  more_from k [] x = refl
  more_from k (y ∷ ys) x = go (eq y k) (more_from k ys x) (more_from y ys x) (begun y ys)
    where
      front : (rest : List X) (b : Bool)
          → (k ∷ cond b (y ∷ rest) ((y ∷ rest) ++ x ∷ []))
          ≡ cond b (k ∷ y ∷ rest) ((k ∷ y ∷ rest) ++ x ∷ [])
      front rest true = refl
      front rest false = refl

      go : (b : Bool)
          → dedup_from eq k (ys ++ x ∷ [])
          ≡ cond (is_end (last_of (dedup_from eq k ys)) x) (dedup_from eq k ys)
          (dedup_from eq k ys ++ x ∷ [])
          → dedup_from eq y (ys ++ x ∷ [])
          ≡ cond (is_end (last_of (dedup_from eq y ys)) x) (dedup_from eq y ys)
          (dedup_from eq y ys ++ x ∷ [])
          → (rest : List X) × (dedup_from eq y ys ≡ y ∷ rest)
          → cond b (dedup_from eq k (ys ++ x ∷ [])) (k ∷ dedup_from eq y (ys ++ x ∷ []))
          ≡ cond (is_end (last_of (cond b (dedup_from eq k ys) (k ∷ dedup_from eq y ys))) x)
          (cond b (dedup_from eq k ys) (k ∷ dedup_from eq y ys))
          (cond b (dedup_from eq k ys) (k ∷ dedup_from eq y ys) ++ x ∷ [])
      go true less more begins = less
      go false less more begins =
          rw (more, begins.1) (front begins.0 (is_end (last_of (y ∷ begins.0)) x))

  -- one item more is kept unless it is the last one that was
  pub dedup_more : (xs : List X) (x : X)
      → dedup eq (xs ++ x ∷ [])
      ≡ cond (is_end (last_of (dedup eq xs)) x) (dedup eq xs) (dedup eq xs ++ x ∷ [])
  dedup_more [] x = refl
  dedup_more (k ∷ xs) x = more_from k xs x

-- ---- strictly in order

module _ {X : Type 0} (cmp : X → X → Ordering) (total : IsTotalOrder cmp) (eq : X → X → Bool)
    (decides : (a b : X) → Decides (eq a b) (a ≡ b))
    (tied : (a b : X) → cmp a b ≡ Equal → a ≡ b) where
  abbrev pub Below : X → X → Type 0
  Below a b = is_lt (cmp a b) ≡ true

  abbrev pub Upto : X → X → Type 0
  Upto a b = is_le (cmp a b) ≡ true

  less : (o : Ordering) → is_lt o ≡ true → o ≡ Less
  less Less h = refl
  less Equal h = absurd (true≢false (sym h))
  less Greater h = absurd (true≢false (sym h))

  pub strictly : (a b : X) → Upto a b → eq b a ≡ false → Below a b
  strictly a b upto apart = go (cmp a b) refl upto
    where
      go : (o : Ordering) → cmp a b ≡ o → is_le o ≡ true → is_lt o ≡ true
      go Less is h = refl
      go Equal is h = absurd (true≢false (sym ((decides b a).1 (sym (tied a b is))) ∙ apart))
      go Greater is h = h

  -- what is strictly below is no equal
  pub below_apart : (a b : X) → Below a b → eq b a ≡ false
  below_apart a b lt = go (eq b a) refl
    where
      go : (c : Bool) → eq b a ≡ c → eq b a ≡ false
      go true same =
          let is : b ≡ a = (decides b a).0 same in
          let tie : cmp a a ≡ Equal = tied_itself total a in
          absurd (true≢false (sym lt ∙ ap (λ r. is_lt (cmp a r)) is ∙ ap is_lt tie))
      go false apart = apart

  pub below_chain : (a b c : X) → Below a b → Below b c → Below a c
  below_chain a b c first second =
      ap is_lt (total.trans a b c (less (cmp a b) first) (less (cmp b c) second))

  upto_from : (a b : X) → Below a b → Upto a b
  upto_from a b lt = ap is_le (less (cmp a b) lt)

  pub below_upto : (a b c : X) → Below a b → Upto b c → Below a c
  below_upto a b c lt upto =
      strictly a c (order.chain a b c (upto_from a b lt) upto) (go (eq c a) refl)
    where
      order : IsOrder (λ x y. is_le (cmp x y))
      order = order_from_cmp cmp total tied

      go : (d : Bool) → eq c a ≡ d → eq c a ≡ false
      go true same =
          let is : c ≡ a = (decides c a).0 same in
          let back : Upto b a = subst (Upto b) is upto in
          let tie : a ≡ b = order.anti a b (upto_from a b lt) back in
          absurd (true≢false (sym ((decides b a).1 (sym tie)) ∙ below_apart a b lt))
      go false apart = apart

  up_from : (k : X) (xs : List X) → IsUp (λ a b. is_le (cmp a b)) (k ∷ xs)
      → IsUp (λ a b. is_lt (cmp a b)) (dedup_from eq k xs)
  up_from k [] up = (tt, tt)
  up_from k (x ∷ xs) up = go (eq x k) refl (up_from k xs (up.0.1, up.1.1)) (up_from x xs up.1)
    where
      go : (b : Bool) → eq x k ≡ b → IsUp (λ a c. is_lt (cmp a c)) (dedup_from eq k xs)
          → IsUp (λ a c. is_lt (cmp a c)) (dedup_from eq x xs)
          → IsUp (λ a c. is_lt (cmp a c)) (cond b (dedup_from eq k xs) (k ∷ dedup_from eq x xs))
      go true same less more = less
      go false apart less more =
          let first : Below k x = strictly k x up.0.0 apart in (
            all_deduped eq (Below k) x xs first
                (all_more _ _ (λ y h. below_upto k x y first h) xs up.1.0),
            more,
          )

  -- each item of a list in order once is a list strictly in order
  pub up_dedup : (xs : List X) → IsUp (λ a b. is_le (cmp a b)) xs
      → IsUp (λ a b. is_lt (cmp a b)) (dedup eq xs)
  up_dedup [] up = tt
  up_dedup (x ∷ xs) up = up_from x xs up
