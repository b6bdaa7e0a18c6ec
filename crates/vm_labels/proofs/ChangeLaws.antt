-- What is left of a label set, and what is put into one, is a label set again.
use Rattle.std.proofs.Common.{◌≡◌, ℕ, ◌≤◌, Bool, true, false, cond, not, ◌||◌, List, [], ◌∷◌, filter, refl, ap, subst, arith, count_by, ◌++◌}
use Rattle.std.specs.Prelude.{bytes_eq}
use Rattle.std.specs.List.{list_all}
use Rattle.std.proofs.lemmas.Slice.Eq.{bytes_eq-Decides}
use Rattle.vm_base.specs.Sorted.{sorted, SameCounts}
use Rattle.vm_base.proofs.SortedLaws.{count-cons, sorted-same_counts}
use Rattle.vm_labels.specs.Labels.{is_below, has_value, has_name, names_rise, IsLabels, is_in_pair_order, keeps, labels_without}
use Rattle.vm_labels.specs.Name.{is_name}
use Rattle.vm_labels.specs.declared.pair.Pair.{Pair}
use Rattle.vm_labels.proofs.OrderLaws.{both_true, and_true, pair_order}
use Rattle.vm_labels.proofs.BuildLaws.{list_all-filter, once, twice_none, sorted_labels}

rise-filter : (f : Pair → Bool) (ps : List Pair) → names_rise ps ≡ true
    → names_rise (filter f ps) ≡ true
rise-filter f [] h = refl
rise-filter f (p ∷ ps) h =
    let both = both_true (list_all (λ q. is_below p.name q.name) ps) (names_rise ps) h in
    elim (f p) as (λ b. names_rise (cond b (p ∷ filter f ps) (filter f ps)) ≡ true) [
      | true ↦
          and_true (list_all (λ q. is_below p.name q.name) (filter f ps)) (names_rise (filter f ps))
          (list_all-filter (λ q. is_below p.name q.name) f ps both.0) (rise-filter f ps both.1)
      | false ↦ rise-filter f ps both.1
    ]

-- some of the labels of a set are a set
pub labels-filter : (f : Pair → Bool) (ps : List Pair) → IsLabels ps → IsLabels (filter f ps)
labels-filter f ps set = record {
  named = list_all-filter (λ p. is_name p.name) f ps set.named;
  valued = list_all-filter has_value f ps set.valued;
  rising = rise-filter f ps set.rising;
}

-- no label of the others has the name
count_others : (name : List ℕ) (ps : List Pair)
    → count_by (has_name name) (labels_without (name ∷ []) ps) ≡ 0
count_others name [] = refl
count_others name (p ∷ ps) = go (count_others name ps) (bytes_eq p.name name) refl
  where
    others : List Pair
    others = labels_without (name ∷ []) ps

    go : count_by (has_name name) (labels_without (name ∷ []) ps) ≡ 0 → (b : Bool)
        → bytes_eq p.name name ≡ b
        → count_by (has_name name)
        (cond (not (b || false)) (p ∷ labels_without (name ∷ []) ps)
        (labels_without (name ∷ []) ps)) ≡ 0
    go more true e = more
    go more false e =
        let none : cond {A = ℕ} (has_name name p) 1 0 ≡ 0 = ap (λ c. cond c 1 0) e in
        omega (arith, count-cons (has_name name) p (labels_without (name ∷ []) ps), none, more)

few_with : (p : Pair) (ps : List Pair) → IsLabels ps → (name : List ℕ)
    → count_by (has_name name) (p ∷ labels_without (p.name ∷ []) ps) ≤ 1
few_with p ps set name = go (bytes_eq p.name name) refl
  where
    go : (b : Bool) → bytes_eq p.name name ≡ b
        → count_by (has_name name) (p ∷ labels_without (p.name ∷ []) ps) ≤ 1
    go true e =
        let here : p.name ≡ name = (bytes_eq-Decides p.name name).0 e in
        let one : cond {A = ℕ} (has_name name p) 1 0 ≡ 1 = ap (λ c. cond c 1 0) e in
        let none : count_by (has_name name) (labels_without (p.name ∷ []) ps) ≡ 0 =
        subst (λ n. count_by (has_name n) (labels_without (p.name ∷ []) ps) ≡ 0) here
        (count_others p.name ps) in
        omega (arith, count-cons (has_name name) p (labels_without (p.name ∷ []) ps), one, none)
    go false e =
        let none : cond {A = ℕ} (has_name name p) 1 0 ≡ 0 = ap (λ c. cond c 1 0) e in
        let others = labels-filter (keeps false (p.name ∷ [])) ps set in
        let few =
        once [] (labels_without (p.name ∷ []) ps)
        (twice_none [] (labels_without (p.name ∷ []) ps) others.rising tt) name in
        omega (arith, count-cons (has_name name) p (labels_without (p.name ∷ []) ps), none, few)

-- a label in place of one of its name
pub labels-with : (p : Pair) (ps : List Pair) → IsLabels ps → is_name p.name ≡ true
    → has_value p ≡ true → IsLabels (sorted is_in_pair_order (p ∷ labels_without (p.name ∷ []) ps))
labels-with p ps set name value =
    let others = labels-filter (keeps false (p.name ∷ [])) ps set in
    sorted_labels (p ∷ labels_without (p.name ∷ []) ps)
    (and_true (is_name p.name) (list_all (λ q. is_name q.name) (labels_without (p.name ∷ []) ps))
    name others.named)
    (and_true (has_value p) (list_all has_value (labels_without (p.name ∷ []) ps)) value
    others.valued)
    (few_with p ps set)

-- an item that is put to the end is put among the others
counts_last : (p : Pair) (ps : List Pair) → SameCounts (ps ++ p ∷ []) (p ∷ ps)
counts_last p [] q = refl
counts_last p (r ∷ ps) q =
    omega (
      arith,
      count-cons q r (ps ++ p ∷ []),
      counts_last p ps q,
      count-cons q p (r ∷ ps),
      count-cons q r ps,
      count-cons q p ps,
    )

pub sorted_last : (p : Pair) (ps : List Pair)
    → sorted is_in_pair_order (ps ++ p ∷ []) ≡ sorted is_in_pair_order (p ∷ ps)
sorted_last p ps =
    sorted-same_counts is_in_pair_order pair_order (ps ++ p ∷ []) (p ∷ ps) (counts_last p ps)
