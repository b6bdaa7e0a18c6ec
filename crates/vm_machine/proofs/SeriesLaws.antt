-- The selected label sets are those of the rows that the selector selects, in order and each once.
use Rattle.std.proofs.Common.{◌≡◌, ℕ, Bool, true, false, cond, not, ◌||◌, ◌≤◌, ◌<◌, List, [], ◌∷◌, Some, None, map, filter, refl, sym, ap, ◌∙◌, true≢false, arith, count_by}
use Rattle.std.specs.BTreeMap.{is_at}
use Rattle.std.specs.List.{AllByRecursion, list_any}
use Rattle.std.specs.List.Sorted.{IsStrictlySortedBy}
use Rattle.std.specs.Map.{lookup, keys_of}
use Rattle.std.specs.Ordering.{is_eq, is_le}
use Rattle.std.specs.declared.cmp.Ordering.{Ordering}
use Rattle.std.specs.declared.cmp.Ordering.TheVariants.{Less, Equal, Greater}
use Rattle.vm_base.specs.Sorted.{IsUp, sorted}
use Rattle.vm_base.proofs.SortedLaws.{count-cons, counts-sorted, up-sorted}
use Rattle.vm_labels.specs.Labels.{label_cmp, label_eq, is_in_label_order}
use Rattle.vm_labels.specs.Selected.{distinct}
use Rattle.vm_labels.specs.Ties.{labels_tie}
use Rattle.vm_labels.specs.declared.pair.Pair.{Pair}
use Rattle.vm_labels.proofs.OrderLaws.{label_eq-Decides, label_order}

-- counts

abbrev one_if : Bool → ℕ
one_if b = cond b 1 0

module _ {A : Type 0} (p : A → Bool) where
  -- none of those that fail a test passes it
  against : (ys : List A) → count_by p (filter (λ y. not (p y)) ys) ≡ 0
  against [] = refl
  against (y ∷ ys) = go (p y) refl (against ys)
    where
      go : (b : Bool) → p y ≡ b → count_by p (filter (λ y. not (p y)) ys) ≡ 0
          → count_by p (cond (not b) (y ∷ filter (λ y. not (p y)) ys) (filter (λ y. not (p y)) ys))
          ≡ 0
      go true h more = more
      go false h more =
          omega (arith, count-cons p y (filter (λ y. not (p y)) ys), ap one_if h, more)

  -- a filter that passes all that the test passes keeps the count
  kept : (r : A → Bool) → ((y : A) → p y ≡ true → r y ≡ true) → (ys : List A)
      → count_by p (filter r ys) ≡ count_by p ys
  kept r more [] = refl
  kept r more (y ∷ ys) = go (r y) refl (kept r more ys)
    where
      fails : r y ≡ false → p y ≡ false
      fails h =
          elim (p y) as (λ b. p y ≡ b → p y ≡ false) [
            | true ↦ λ e. cc (more y e, h)
            | false ↦ λ e. e
          ] refl

      go : (b : Bool) → r y ≡ b → count_by p (filter r ys) ≡ count_by p ys
          → count_by p (cond b (y ∷ filter r ys) (filter r ys)) ≡ count_by p (y ∷ ys)
      go true h rest = omega (arith, count-cons p y (filter r ys), count-cons p y ys, rest)
      go false h rest = omega (arith, count-cons p y ys, ap one_if (fails h), rest)

  -- an item passes just where the count isn't zero
  any_counts : (ys : List A) → (b : Bool) → list_any p ys ≡ b
      → cond b (0 < count_by p ys) (count_by p ys ≡ 0)
  any_counts [] true h = absurd (true≢false (sym h))
  any_counts [] false h = refl
  any_counts (y ∷ ys) b h = go (p y) refl b h (any_counts ys)
    where
      go : (c : Bool) → p y ≡ c → (b : Bool) → (c || list_any p ys) ≡ b
          → ((b : Bool) → list_any p ys ≡ b → cond b (0 < count_by p ys) (count_by p ys ≡ 0))
          → cond b (0 < count_by p (y ∷ ys)) (count_by p (y ∷ ys) ≡ 0)
      go true e true h more = omega (arith, count-cons p y ys, ap one_if e)
      go true e false h more = absurd cc
      go false e true h more = omega (arith, count-cons p y ys, more true h)
      go false e false h more = omega (arith, count-cons p y ys, ap one_if e, more false h)

  none_passes : (ys : List A) → count_by p ys ≡ 0 → AllByRecursion (λ y. p y ≡ false) ys
  none_passes [] none = tt
  none_passes (y ∷ ys) none =
      (fails (p y) refl, none_passes ys (omega (arith, count-cons p y ys, none)))
    where
      fails : (b : Bool) → p y ≡ b → p y ≡ false
      fails true h = absurd (omega (arith, count-cons p y ys, none, ap one_if h))
      fails false h = h

-- the label sets of a list, each once

-- a label set stands once among the distinct ones where it stands in the list, and else not at all
pub distinct_count : (q : List Pair) (xs : List (List Pair))
    → count_by (label_eq q) (distinct xs) ≡ cond (list_any (label_eq q) xs) 1 0
distinct_count q [] = refl
distinct_count q (x ∷ xs) = go (label_eq q x) refl (distinct_count q xs)
  where
    rest : List (List Pair)
    rest = filter (λ y. not (label_eq x y)) (distinct xs)

    here : q ≡ x → count_by (label_eq q) rest ≡ 0
    here e = ap (λ z. count_by (label_eq z) rest) e ∙ against (label_eq x) (distinct xs)

    apart : label_eq q x ≡ false → (y : List Pair) → label_eq q y ≡ true → not (label_eq x y) ≡ true
    apart h y same =
        let e : q ≡ y = (label_eq-Decides q y).0 same in
        elim (label_eq x y) as (λ b. label_eq x y ≡ b → not b ≡ true) [
          | true ↦
              λ other.
              absurd (true≢false
              (sym ((label_eq-Decides q x).1 (e ∙ sym ((label_eq-Decides x y).0 other))) ∙ h))
          | false ↦ λ other. refl
        ] refl

    go : (b : Bool) → label_eq q x ≡ b
        → count_by (label_eq q) (distinct xs) ≡ cond (list_any (label_eq q) xs) 1 0
        → count_by (label_eq q) (x ∷ rest) ≡ cond (b || list_any (label_eq q) xs) 1 0
    go true h more =
        omega (
          arith,
          count-cons (label_eq q) x rest,
          ap one_if h,
          here ((label_eq-Decides q x).0 h),
        )
    go false h more =
        omega (
          arith,
          count-cons (label_eq q) x rest,
          ap one_if h,
          kept (label_eq q) (λ y. not (label_eq x y)) (apart h) (distinct xs),
          more,
        )

-- a list in order in which no label set stands twice rises strictly
strict : (ys : List (List Pair)) → IsUp is_in_label_order ys
    → ((q : List Pair) → count_by (label_eq q) ys ≤ 1)
    → IsStrictlySortedBy label_cmp ys
unfolding IsStrictlySortedBy
strict [] up few = tt
strict (x ∷ ys) up few = (less ys up.0 (none_passes (label_eq x) ys none), strict ys up.1 fewer)
  where
    itself : label_eq x x ≡ true
    itself = (label_eq-Decides x x).1 refl

    none : count_by (label_eq x) ys ≡ 0
    none = omega (arith, few x, count-cons (label_eq x) x ys, ap one_if itself)

    fewer : (q : List Pair) → count_by (label_eq q) ys ≤ 1
    fewer q = omega (arith, few q, count-cons (label_eq q) x ys)

    by : (r : Ordering) (y : List Pair) → label_cmp x y ≡ r → is_le r ≡ true → label_eq x y ≡ false
        → label_cmp x y ≡ Less
    by Less y h le apart = h
    by Equal y h le apart = absurd (true≢false (sym (labels_tie x y ∙ ap is_eq h) ∙ apart))
    by Greater y h le apart = absurd cc

    less : (zs : List (List Pair)) → AllByRecursion (λ y. is_in_label_order x y ≡ true) zs
        → AllByRecursion (λ y. label_eq x y ≡ false) zs
        → AllByRecursion (λ y. label_cmp x y ≡ Less) zs
    less [] le apart = tt
    less (z ∷ zs) le apart = (by (label_cmp x z) z refl le.0 apart.0, less zs le.1 apart.1)

-- what a map made of label sets has at one of them
pub lookup-map : {X : Type 0} (f : List Pair → X) (q : List Pair) (ks : List (List Pair))
    → lookup (is_at (label_cmp q)) (map (λ k. (k, f k)) ks)
    ≡ cond (list_any (label_eq q) ks) (Some (f q)) None
lookup-map f q [] = refl
lookup-map f q (k ∷ ks) =
    ap (λ b. cond b (Some (f k)) (lookup (is_at (label_cmp q)) (map (λ k. (k, f k)) ks)))
    (sym (labels_tie q k)) ∙ go (label_eq q k) refl (lookup-map f q ks)
  where
    go : (b : Bool) → label_eq q k ≡ b
        → lookup (is_at (label_cmp q)) (map (λ k. (k, f k)) ks)
        ≡ cond (list_any (label_eq q) ks) (Some (f q)) None
        → cond b (Some (f k)) (lookup (is_at (label_cmp q)) (map (λ k. (k, f k)) ks))
        ≡ cond (b || list_any (label_eq q) ks) (Some (f q)) None
    go true h more = ap (λ z. Some (f z)) (sym ((label_eq-Decides q k).0 h))
    go false h more = more

pub keys-map : {X : Type 0} (f : List Pair → X) (ks : List (List Pair))
    → keys_of (map (λ k. (k, f k)) ks) ≡ ks
keys-map f [] = refl
keys-map f (k ∷ ks) = ap (λ more. k ∷ more) (keys-map f ks)

-- the distinct label sets in order

ordered_count : (q : List Pair) (xs : List (List Pair))
    → count_by (label_eq q) (sorted is_in_label_order (distinct xs))
    ≡ cond (list_any (label_eq q) xs) 1 0
ordered_count q xs = counts-sorted is_in_label_order (distinct xs) (label_eq q)
    ∙ distinct_count q xs

pub ordered_any : (q : List Pair) (xs : List (List Pair))
    → list_any (label_eq q) (sorted is_in_label_order (distinct xs)) ≡ list_any (label_eq q) xs
ordered_any q xs =
    go (list_any (label_eq q) (sorted is_in_label_order (distinct xs))) (list_any (label_eq q) xs)
    refl (ordered_count q xs)
  where
    go : (a b : Bool) → list_any (label_eq q) (sorted is_in_label_order (distinct xs)) ≡ a
        → count_by (label_eq q) (sorted is_in_label_order (distinct xs)) ≡ cond b 1 0 → a ≡ b
    go true true h many = refl
    go true false h many =
        absurd (omega
        (arith, any_counts (label_eq q) (sorted is_in_label_order (distinct xs)) true h, many))
    go false true h many =
        absurd (omega
        (arith, any_counts (label_eq q) (sorted is_in_label_order (distinct xs)) false h, many))
    go false false h many = refl

pub ordered_strict : (xs : List (List Pair))
    → IsStrictlySortedBy label_cmp (sorted is_in_label_order (distinct xs))
ordered_strict xs =
    strict (sorted is_in_label_order (distinct xs))
    (up-sorted is_in_label_order label_order (distinct xs)) few
  where
    most : (b : Bool) → cond b 1 0 ≤ 1
    most true = omega arith
    most false = omega arith

    few : (q : List Pair) → count_by (label_eq q) (sorted is_in_label_order (distinct xs)) ≤ 1
    few q = omega (arith, ordered_count q xs, most (list_any (label_eq q) xs))
