-- The order of samples at their times, for the proofs of those who use it.
use Rattle.std.proofs.Common.{◌≡◌, ℕ, ℤ, ◌==◌, ◌||◌, ◌&&◌, nat_lt, int_le, Ordering, Less, Equal, Greater, refl, ap₂, sym, ◌∙◌, ⊎_elim, inl, inr, arith, List, IsPermutation, IsSorted}
use Rattle.std.proofs.lemmas.Bool.Decides.{nat_tests}
use Rattle.std.proofs.lemmas.Int.{ints}
use Rattle.std.proofs.lemmas.Cmp.{ranked, int_ranked, nat_cmp_total, int_cmp_total, then_total, on_total}
use Rattle.std.specs.Cmp.{IsTotalOrder}
use Rattle.std.specs.Ordering.{nat_cmp, int_cmp, then_cmp, ordering_then, on, is_le}
use Rattle.vm_base.specs.Sorted.{IsOrder, sorted}
use Rattle.vm_base.specs.Stamped.{is_in_order}
use Rattle.vm_base.specs.declared.stamped.Stamped.{Stamped}
use Rattle.vm_base.proofs.SortedLaws.{order_from_cmp, sorted_from_sort}

-- what `cmp` of two of them answers: it computes to the ghost member `cmp` of their type
abbrev pub stamped_cmp : Stamped → Stamped → Ordering
stamped_cmp = then_cmp (on (λ s. s.time) nat_cmp) (on (λ s. s.value) int_cmp)

pub stamped_cmp-total : IsTotalOrder stamped_cmp
stamped_cmp-total =
    then_total (on_total (λ s. s.time) nat_cmp_total) (on_total (λ s. s.value) int_cmp_total)

in_order_by_parts : (t u : ℕ) (y z : ℤ)
    → (nat_lt t u || (t == u && int_le y z)) ≡ is_le (ordering_then (nat_cmp t u) (int_cmp y z))
in_order_by_parts t u y z = grind (arith, nat_tests, ints)

-- `is_in_order` is "not greater"
pub is_in_order-cmp : (a b : Stamped) → is_in_order a b ≡ is_le (stamped_cmp a b)
is_in_order-cmp a b = in_order_by_parts a.time b.time a.value b.value

both_equal : (first next : Ordering) → ordering_then first next ≡ Equal
    → (first ≡ Equal) × (next ≡ Equal)
both_equal Less next tie = absurd (cc)
both_equal Equal next tie = (refl, tie)
both_equal Greater next tie = absurd (cc)

parts_tied : (t u : ℕ) (y z : ℤ) → ordering_then (nat_cmp t u) (int_cmp y z) ≡ Equal
    → (t ≡ u) × (y ≡ z)
parts_tied t u y z tie =
    let both = both_equal (nat_cmp t u) (int_cmp y z) tie in
    (ranked t u Equal (sym both.0), int_ranked y z Equal (sym both.1))

-- the same time and the same number are the same sample
pub stamped_tied : (a b : Stamped) → stamped_cmp a b ≡ Equal → a ≡ b
stamped_tied a b tie =
    let made : ℕ → ℤ → Stamped = λ t y. record { time = t; value = y } in
    let parts = parts_tied a.time b.time a.value b.value tie in
    ap₂ made parts.0 parts.1

-- any two of them are in order one way, and both ways only where they are the same
pub stamped_order : IsOrder is_in_order
stamped_order =
    let is = is_in_order-cmp in
    let by_cmp = order_from_cmp stamped_cmp stamped_cmp-total stamped_tied in
    record {
      same = λ a. is a a ∙ by_cmp.same a;
      chain = λ a b c p q. is a c ∙ by_cmp.chain a b c (sym (is a b) ∙ p) (sym (is b c) ∙ q);
      anti = λ a b p q. by_cmp.anti a b (sym (is a b) ∙ p) (sym (is b a) ∙ q);
      total = λ a b. ⊎_elim (λ h. inl (is a b ∙ h)) (λ h. inr (is b a ∙ h)) (by_cmp.total a b);
    }

-- what `sort` gives of a list of them
pub sorted_from_stamped_sort : (xs ys : List Stamped) → IsPermutation xs ys
    → IsSorted stamped_cmp ys
    → ys ≡ sorted is_in_order xs
sorted_from_stamped_sort =
    sorted_from_sort stamped_cmp stamped_cmp-total is_in_order is_in_order-cmp stamped_order
