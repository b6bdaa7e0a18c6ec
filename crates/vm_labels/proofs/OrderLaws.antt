-- The orders of pairs and of label sets, for the proofs of those who use them.
use Rattle.std.proofs.Common.{◌≡◌, true, Bool, false, ◌&&◌, Equal, List, refl, ap, ap₂, ◌∙◌, IsPermutation, IsSorted}
use Rattle.std.proofs.lemmas.Cmp.{nat_list_cmp_total, lists_total, then_total, on_total}
use Rattle.std.proofs.lemmas.Slice.Eq.{bytes_eq-Decides}
use Rattle.std.specs.Bool.{Decides}
use Rattle.std.specs.Prelude.{ℕ, bytes_eq}
use Rattle.std.specs.Ordering.{is_eq}
use Rattle.std.specs.Cmp.{IsTotalOrder}
use Rattle.std.specs.Cmp.Lexicographic.{pointwise_decides}
use Rattle.vm_base.specs.Sorted.{IsOrder, sorted}
use Rattle.vm_base.proofs.SortedLaws.{order_from_cmp, sorted_from_sort}
use Rattle.vm_labels.specs.Labels.{pair_cmp, pair_eq, is_in_pair_order, label_cmp, label_eq, is_in_label_order}
use Rattle.vm_labels.specs.Ties.{pairs_tie, labels_tie}
use Rattle.vm_labels.specs.declared.pair.Pair.{Pair}

pub both_true : (a b : Bool) → (a && b) ≡ true → (a ≡ true) × (b ≡ true)
both_true true b h = (refl, h)
both_true false b h = absurd cc

pub and_true : (a b : Bool) → a ≡ true → b ≡ true → (a && b) ≡ true
and_true a b p q = cc

-- `pair_eq` and `label_eq` say that two are the same
pub pair_eq-Decides : (p q : Pair) → Decides (pair_eq p q) (p ≡ q)
pair_eq-Decides p q = (same, itself)
  where
    made : List ℕ → List ℕ → Pair
    made name value = record { name = name; value = value }

    same : pair_eq p q ≡ true → p ≡ q
    same h =
        let both = both_true (bytes_eq p.name q.name) (bytes_eq p.value q.value) h in
        ap₂ made ((bytes_eq-Decides p.name q.name).0 both.0)
        ((bytes_eq-Decides p.value q.value).0 both.1)

    itself : p ≡ q → pair_eq p q ≡ true
    itself e =
        and_true (bytes_eq p.name q.name) (bytes_eq p.value q.value)
        ((bytes_eq-Decides p.name q.name).1 (ap (λ r. r.name) e))
        ((bytes_eq-Decides p.value q.value).1 (ap (λ r. r.value) e))

pub label_eq-Decides : (a b : List Pair) → Decides (label_eq a b) (a ≡ b)
label_eq-Decides = pointwise_decides pair_eq-Decides

-- pairs have an order
pub pair_cmp-total : IsTotalOrder pair_cmp
pair_cmp-total =
    then_total (on_total (λ p. p.name) nat_list_cmp_total)
    (on_total (λ p. p.value) nat_list_cmp_total)

pub pairs_tied : (p q : Pair) → pair_cmp p q ≡ Equal → p ≡ q
pairs_tied p q tie = (pair_eq-Decides p q).0 (pairs_tie p q ∙ ap is_eq tie)

pub pair_order : IsOrder is_in_pair_order
pair_order = order_from_cmp pair_cmp pair_cmp-total pairs_tied

-- what `sort` gives of a list of pairs
pub sorted_from_pair_sort : (xs ys : List Pair) → IsPermutation xs ys → IsSorted pair_cmp ys
    → ys ≡ sorted is_in_pair_order xs
sorted_from_pair_sort =
    sorted_from_sort pair_cmp pair_cmp-total is_in_pair_order (λ _ _. refl) pair_order

-- label sets have an order, that of `cmp`
pub label_cmp-total : IsTotalOrder label_cmp
label_cmp-total = lists_total pair_cmp-total

pub labels_tied : (a b : List Pair) → label_cmp a b ≡ Equal → a ≡ b
labels_tied a b tie = (label_eq-Decides a b).0 (labels_tie a b ∙ ap is_eq tie)

pub label_order : IsOrder is_in_label_order
label_order = order_from_cmp label_cmp label_cmp-total labels_tied

-- what `sort` gives of a list of label sets
pub sorted_from_label_sort : (xs ys : List (List Pair)) → IsPermutation xs ys
    → IsSorted label_cmp ys → ys ≡ sorted is_in_label_order xs
sorted_from_label_sort =
    sorted_from_sort label_cmp label_cmp-total is_in_label_order (λ _ _. refl) label_order
