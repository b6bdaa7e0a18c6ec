-- What a reader expects of remainders and quotients, for the proofs of those who use them.
use Rattle.std.proofs.Common.{◌≡◌, ℕ, zero, suc, ◌+◌, ◌-◌, ◌*◌, ◌%◌, ◌^◌, ◌<◌, ◌≤◌, nat_lt, ℤ, pos, negsuc, neg_ℤ, ◌-ℤ◌, ◌*ℤ◌, int_div, int_rem, unsigned_abs, Bool, true, false, Option, Some, None, option_map, if◌then◌else◌, refl, ap, sym, subst, ◌∙◌, ⊎_elim, arith}
use Rattle.std.proofs.lemmas.Bool.{cases_lt}
use Rattle.std.proofs.lemmas.Bool.Decides.{nat_tests, Decides-int_eq}
use Rattle.std.proofs.lemmas.Int.{ints, quot-rem, rem_below}
use Rattle.std.specs.Int.{is_negative}
use Rattle.std.specs.Ordering.{int_eq}
use Rattle.vm_base.specs.Form.{unsigned_abs-signed}
use Rattle.vm_base.specs.Number.{signed}
use Rattle.vm_base.specs.Rounding.{nearest}
use Rattle.vm_base.proofs.NumberLaws.{signed-parts}
use Rattle.vm_base.proofs.RoundingLaws.{nearest-IsNearest}
use Rattle.vm_decimal.specs.Arithmetic.{differ, nearest_quotient, scaled_dividend, if_scaled, remainder, quotient9}
use Rattle.vm_decimal.specs.ArithmeticLaws.{IsRest, IsQuotient9}
use Rattle.vm_decimal.specs.Dec.{is_dec, in_range, dec_of}
use Rattle.vm_decimal.proofs.Divisions.{differ_back}
use Rattle.vm_decimal.proofs.Products.{signed_mul}

-- what an answer that holds a number says

scaled_found : (b : Bool) (found : Option ℤ) (r : ℤ) → (if b then found else None) ≡ Some r
    → found ≡ Some r
scaled_found true found r is = is
scaled_found false found r is = absurd (cc is)

mapped : (found : Option ℤ) (r : ℤ) → option_map Some found ≡ Some (Some r) → found ≡ Some r
mapped (Some z) r is = let same : z ≡ r = cc is in ap Some same
mapped None r is = absurd (cc is)

divided : (b : Bool) (found : Option ℤ) (r : ℤ)
    → (if b then Some None else option_map Some found) ≡ Some (Some r) → (b ≡ false)
    × (found ≡ Some r)
divided true found r is = absurd (cc is)
divided false found r is = (refl, mapped found r is)

ranged : (b : Bool) (z r : ℤ) → (if b then Some z else None) ≡ Some r → r ≡ z
ranged true z r is = let same : z ≡ r = cc is in sym same
ranged false z r is = absurd (cc is)

size_of : (b : ℤ) → int_eq b (pos 0) ≡ false → 0 < unsigned_abs b
size_of b other =
    let apart : b ≡ pos 0 → ⊥ = λ none. grind (arith, Decides-int_eq b (pos 0)) in
    by b apart
  where
    by : (b : ℤ) → (b ≡ pos 0 → ⊥) → 0 < unsigned_abs b
    by (pos zero) apart = absurd (apart refl)
    by (pos (suc n)) apart = omega arith
    by (negsuc n) apart = omega arith

plus : (n : ℕ) → is_negative (pos n) ≡ false
plus n = grind (arith, nat_tests)

rest_sign : (a b : ℤ) → is_negative (int_rem a b) ≡ true → is_negative a ≡ true
rest_sign (pos n) b is = absurd (cc (plus (n % unsigned_abs b), is))
rest_sign (negsuc n) b is = refl

rest_sign_too : (a b : ℤ) → is_negative a ≡ true → is_negative (neg_ℤ (int_rem a b)) ≡ true → ⊥
rest_sign_too (pos n) b minus is = cc (plus n, minus)
rest_sign_too (negsuc n) b minus is = go (suc n % unsigned_abs b) is
  where
    go : (k : ℕ) → is_negative (neg_ℤ (neg_ℤ (pos k))) ≡ true → ⊥
    go zero is = cc (plus 0, is)
    go (suc k) is = cc (plus (suc k), is)

pub remainder-IsRest : (a b r : ℤ) → remainder a b ≡ Some (Some r) → IsRest a b r
unfolding remainder
remainder-IsRest a b r is =
    let parts = divided (int_eq b (pos 0)) (if_scaled 0 a b (in_range (int_rem a b))) r is in
    let found =
    scaled_found (nat_lt (scaled_dividend 0 a b) (10 ^ 38)) (in_range (int_rem a b)) r
    parts.1 in
    let same : r ≡ int_rem a b = ranged (is_dec (int_rem a b)) (int_rem a b) r found in
    subst (IsRest a b) (sym same) (record {
      quotient = int_div a b;
      whole = quot-rem a b;
      near = rem_below a b (size_of b parts.0);
      sign = rest_sign a b;
      sign_too = rest_sign_too a b;
    })

-- a quotient that is as near as it can be

apart : (s : Bool) (n k : ℕ)
    → unsigned_abs (signed s n -ℤ signed s k) + unsigned_abs (signed s n -ℤ signed s k)
    ≡ 2 * ((n - k) + (k - n))
apart true n k = omega (arith, ints)
apart false n k = omega (arith, ints)

near_quotient : (sa : Bool) (n : ℕ) (sb : Bool) (d : ℕ) → 0 < d
    → (2 * unsigned_abs (signed sa n -ℤ signed (differ sa sb) (nearest n d) *ℤ signed sb d) ≤ d)
    × (2 * unsigned_abs (signed sa n -ℤ signed (differ sa sb) (nearest n d) *ℤ signed sb d) ≡ d
    → nearest n d % 2 ≡ 0)
near_quotient sa n sb d some =
    let q = nearest n d in
    let is = nearest-IsNearest n d some in
    let back : signed (differ sa sb) (nearest n d) *ℤ signed sb d ≡ signed sa (nearest n d * d) =
    signed_mul (differ sa sb) q sb d ∙ ap (λ s. signed s (q * d)) (differ_back sa sb) in
    let gap = apart sa n (q * d) in
    let above = is.above in
    let below = is.below in
    rw back (
      omega (arith, gap),
      λ tie.
          ⊎_elim
          (λ (less : n < nearest n d * d). is.tie_below (omega (arith, gap)))
          (λ (more : nearest n d * d ≤ n). is.tie_above (omega (arith, gap)))
          (cases_lt n (nearest n d * d)),
    )

pub quotient9-IsQuotient9 : (a b z : ℤ) → quotient9 a b ≡ Some (Some z) → IsQuotient9 a b z
unfolding quotient9
quotient9-IsQuotient9 a b z is =
    let raised = a *ℤ pos (10 ^ 9) in
    let q = nearest_quotient raised b in
    let parts = divided (int_eq b (pos 0)) (if_scaled 9 a b (dec_of q (negsuc 8))) z is in
    let found =
    scaled_found (nat_lt (scaled_dividend 9 a b) (10 ^ 38)) (dec_of q (negsuc 8)) z parts.1 in
    let some : 0 < unsigned_abs b = size_of b parts.0 in
    let near =
    near_quotient (is_negative raised) (unsigned_abs raised) (is_negative b) (unsigned_abs b)
    some in
    let near_too = rw (signed-parts raised, signed-parts b) at near in
    record {
      billionths = q;
      is = found;
      near = near_too.0;
      even = λ tie.
          even_size (differ (is_negative raised) (is_negative b))
          (nearest (unsigned_abs raised) (unsigned_abs b))
          (near_too.1 tie);
    }
  where
    even_size : (s : Bool) (k : ℕ) → k % 2 ≡ 0 → unsigned_abs (signed s k) % 2 ≡ 0
    even_size s k even = ap (λ n. n % 2) (unsigned_abs-signed s k) ∙ even
