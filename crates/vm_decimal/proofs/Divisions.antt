-- Remainders, quotients and multiples of numbers by their signs, sizes and shifts.
use Rattle.std.proofs.Common.{◌≡◌, ℕ, zero, suc, ◌+◌, ◌-◌, ◌*◌, ◌/◌, ◌%◌, ◌^◌, ◌<◌, ◌≤◌, IfSome, IfNone, ◌==◌, nat_lt, ℤ, pos, negsuc, neg_ℤ, ◌*ℤ◌, ◌<ℤ◌, int_rem, unsigned_abs, Bool, true, false, Option, Some, None, option_map, refl, ap, ap₂, sym, ◌∙◌, ⊎_elim, arith}
use Rattle.std.proofs.Math.Nat.{zero-mod, mul_assoc, add-mul, mul-div-mul_right, mul-lt-mul_of_pos_right, mul-le-mul_right, mod-eq_of_lt, one-le-mul, eq_of_mul-eq-mul_right}
use Rattle.std.proofs.lemmas.Bool.{cases_lt, cases_eq}
use Rattle.std.proofs.lemmas.Bool.Decides.{nat_tests}
use Rattle.std.proofs.lemmas.Int.{ints}
use Rattle.std.proofs.lemmas.Nat.{div-add-mod'}
use Rattle.std.specs.Int.{is_negative}
use Rattle.std.specs.Ordering.{int_eq}
use Rattle.vm_base.specs.Form.{ten_pos, unsigned_abs-signed}
use Rattle.vm_base.specs.Number.{signed, number}
use Rattle.vm_base.specs.Rounding.{nearest}
use Rattle.vm_base.proofs.NumberLaws.{is_negative-form, int_eq-signed, signed-zero}
use Rattle.vm_base.proofs.RoundingLaws.{IsNearest-one, nearest-IsNearest}
use Rattle.vm_decimal.specs.Arithmetic.{differ, nearest_quotient, scaled_dividend, if_scaled, remainder, quotient9, nearest_multiple}
use Rattle.vm_decimal.specs.Dec.{IsDecForm, in_range, dec_of}
use Rattle.vm_decimal.specs.inner.Division.{IsAligned}
use Rattle.vm_decimal.specs.Parts.{whole}
use Rattle.vm_decimal.specs.declared.division.Aligned.{Aligned}
use Rattle.vm_decimal.specs.declared.parts.Scaled.{Scaled}
use Rattle.vm_decimal.proofs.DecForms.{form_of-dec}
use Rattle.vm_decimal.proofs.Decs.{noughts_add}
use Rattle.vm_decimal.proofs.Products.{signed_mul}
use Rattle.vm_decimal.proofs.Sums.{lowered_size}

-- quotients of numbers with a factor

lt_times : (a b t : ℕ) → 0 < t → nat_lt (a * t) (b * t) ≡ nat_lt a b
lt_times a b t some =
    ⊎_elim
    (λ (h : a < b).
    let less : a * t < b * t = mul-lt-mul_of_pos_right h some in
    grind (arith, nat_tests))
    (λ (h : b ≤ a).
    let more : b * t ≤ a * t = mul-le-mul_right {m = b} {n = a} t h in
    grind (arith, nat_tests))
    (cases_lt a b)

eq_times : (a b t : ℕ) → 0 < t → (a * t == b * t) ≡ (a == b)
eq_times a b t some =
    ⊎_elim
    (λ (h : a ≡ b).
    let same : a * t ≡ b * t = ap (λ n. n * t) h in
    grind (arith, nat_tests))
    (λ (h : a ≡ b → ⊥).
    let other : a * t ≡ b * t → ⊥ = λ e. h (eq_of_mul-eq-mul_right t some a b e) in
    grind (arith, nat_tests))
    (cases_eq a b)

pub mod_times : (n d t : ℕ) → 0 < t → n * t % (d * t) ≡ n % d * t
mod_times n d t some =
    let whole = div-add-mod' (n * t) (d * t) in
    let parts : n * t ≡ n / d * d * t + n % d * t =
    ap (λ k. k * t) (sym (div-add-mod' n d)) ∙ add-mul (n / d * d) (n % d) t in
    let same : n * t / (d * t) * (d * t) ≡ n / d * d * t =
    ap (λ k. k * (d * t)) (mul-div-mul_right n d some) ∙ sym (mul_assoc (n / d) d t) in
    omega arith

pub nearest_times : (n d t : ℕ) → 0 < t → nearest (n * t) (d * t) ≡ nearest n d
nearest_times n d t some =
    let rest = n % d in
    let whole : n * t / (d * t) ≡ n / d = mul-div-mul_right n d some in
    let left : n * t % (d * t) ≡ n % d * t = mod_times n d t some in
    let twice : 2 * (n % d * t) ≡ 2 * (n % d) * t = sym (mul_assoc 2 (n % d) t) in
    let less : nat_lt (2 * (n % d * t)) (d * t) ≡ nat_lt (2 * (n % d)) d =
    ap (λ k. nat_lt k (d * t)) twice ∙ lt_times (2 * (n % d)) d t some in
    let tie : (2 * (n % d * t) == d * t) ≡ (2 * (n % d) == d) =
    ap (λ k. k == d * t) twice ∙ eq_times (2 * (n % d)) d t some in
    rw (whole, left, less, tie) refl

-- what is below half of the divisor is rounded to 0
pub nearest_far : (n d : ℕ) → 2 * n < d → 0 ≡ nearest n d
nearest_far n d far =
    IsNearest-one n d 0 (nearest n d) (omega arith)
    (record {
      above = omega arith;
      below = omega arith;
      tie_above = λ tie. refl;
      tie_below = λ tie. refl;
    })
    (nearest-IsNearest n d (omega arith))

-- signs

pub signed_rem : (a : Bool) (n : ℕ) (b : Bool) (d : ℕ)
    → int_rem (signed a n) (signed b d) ≡ signed a (n % d)
signed_rem false n b d = ap (λ k. pos (n % k)) (unsigned_abs-signed b d)
signed_rem true zero b d =
    ap pos (zero-mod (unsigned_abs (signed b d))) ∙ sym (ap (λ k. neg_ℤ (pos k)) (zero-mod d))
signed_rem true (suc n) b d = ap (λ k. neg_ℤ (pos (suc n % k))) (unsigned_abs-signed b d)

differ-plus : (a : Bool) → differ a false ≡ a
differ-plus true = refl
differ-plus false = refl

pub differ_back : (a b : Bool) → differ (differ a b) b ≡ a
differ_back true true = refl
differ_back true false = refl
differ_back false true = refl
differ_back false false = refl

size_none : (x k : ℕ) → x * 10 ^ k ≡ 0 → x ≡ 0
size_none zero k none = refl
size_none (suc x) k none = absurd (omega (arith, one-le-mul {a = suc x} (omega arith) (ten_pos k)))

size_some : (x k : ℕ) → 0 < x → 0 < x * 10 ^ k
size_some x k some = one-le-mul {a = x} some (ten_pos k)

sign_is : (a : Bool) (x k : ℕ) → (x ≡ 0 → a ≡ false) → is_negative (number a x k) ≡ a
sign_is a x k plus = is_negative-form a (x * 10 ^ k) (λ none. plus (size_none x k none))

quotient-numbers : (a : Bool) (x k : ℕ) (b : Bool) (y j : ℕ) → (x ≡ 0 → a ≡ false)
    → (y ≡ 0 → b ≡ false)
    → nearest_quotient (number a x k) (number b y j)
    ≡ signed (differ a b) (nearest (x * 10 ^ k) (y * 10 ^ j))
quotient-numbers a x k b y j plus plus_too =
    rw (
      sign_is a x k plus,
      sign_is b y j plus_too,
      unsigned_abs-signed a (x * 10 ^ k),
      unsigned_abs-signed b (y * 10 ^ j),
    ) refl

-- results

pub rest_is : (a : Bool) (x i : ℕ) (b : Bool) (y j r shift : ℕ)
    → r * 10 ^ shift ≡ x * 10 ^ i % (y * 10 ^ j)
    → number a r shift ≡ int_rem (number a x i) (number b y j)
rest_is a x i b y j r shift is = ap (signed a) is ∙ sym (signed_rem a (x * 10 ^ i) b (y * 10 ^ j))

pub quotient_is : (a : Bool) (x i : ℕ) (b : Bool) (y j q : ℕ) → IsDecForm a x i → IsDecForm b y j
    → q ≡ nearest (x * 10 ^ (i + 9)) (y * 10 ^ j)
    → signed (differ a b) q ≡ nearest_quotient (number a x i *ℤ pos (10 ^ 9)) (number b y j)
quotient_is a x i b y j q one two is =
    let raised : number a x i *ℤ pos (10 ^ 9) ≡ number a x (i + 9) =
    signed_mul a (x * 10 ^ i) false (10 ^ 9)
    ∙ ap₂ signed (differ-plus a) (noughts_add x i 9) in
    ap (signed (differ a b)) is
    ∙ sym (ap (λ z. nearest_quotient z (number b y j)) raised
    ∙ quotient-numbers a x (i + 9) b y j one.plus two.plus)

pub multiple_is : (a : Bool) (x i : ℕ) (b : Bool) (y j m shift : ℕ) → IsDecForm a x i
    → IsDecForm b y j
    → m * 10 ^ shift ≡ nearest (x * 10 ^ i) (y * 10 ^ j) * (y * 10 ^ j)
    → number a m shift ≡ nearest_quotient (number a x i) (number b y j) *ℤ number b y j
multiple_is a x i b y j m shift one two is =
    let q = nearest (x * 10 ^ i) (y * 10 ^ j) in
    let back : nearest_quotient (number a x i) (number b y j) *ℤ number b y j
    ≡ signed (differ (differ a b) b) (nearest (x * 10 ^ i) (y * 10 ^ j) * (y * 10 ^ j)) =
    ap (λ z. z *ℤ number b y j) (quotient-numbers a x i b y j one.plus two.plus)
    ∙ signed_mul (differ a b) q b (y * 10 ^ j) in
    ap (signed a) is ∙ sym (back ∙ ap (λ s. signed s (q * (y * 10 ^ j))) (differ_back a b))

-- the scaled dividend

pub scaled_is : (noughts : ℕ) (a : Bool) (x i : ℕ) (b : Bool) (y j : ℕ) → IsDecForm a x i
    → IsDecForm b y j
    → scaled_dividend noughts (number a x i) (number b y j) ≡ x * 10 ^ (i + noughts - j)
scaled_is noughts a x i b y j one two = rw (form_of-dec a x i one, form_of-dec b y j two) refl

pub if_scaled-found : (noughts : ℕ) (z w : ℤ) (s : ℕ) {found wanted : Option ℤ}
    → scaled_dividend noughts z w ≡ s → s < 10 ^ 38 → found ≡ wanted
    → found ≡ if_scaled noughts z w wanted
if_scaled-found noughts z w s is few found =
    let yes : nat_lt (scaled_dividend noughts z w) (10 ^ 38) ≡ true = grind (arith, nat_tests) in
    rw yes found

pub if_scaled-wide : (noughts : ℕ) (z w : ℤ) (s : ℕ) (wanted : Option ℤ)
    → scaled_dividend noughts z w ≡ s → 10 ^ 38 ≤ s → None ≡ if_scaled noughts z w wanted
if_scaled-wide noughts z w s wanted is wide =
    let no : nat_lt (scaled_dividend noughts z w) (10 ^ 38) ≡ false = grind (arith, nat_tests) in
    rw no refl

-- zero and other divisors

none_is : (b : Bool) (y j : ℕ) (w : ℤ) → number b y j ≡ w → y ≡ 0 → int_eq w (pos 0) ≡ true
none_is b y j w is none =
    let nought : y * 10 ^ j ≡ 0 = ap (λ n. n * 10 ^ j) none ∙ omega arith in
    sym (ap (λ z. int_eq z (pos 0)) is) ∙ int_eq-signed b (y * 10 ^ j) ∙ grind (arith, nat_tests)

some_is : (b : Bool) (y j : ℕ) (w : ℤ) → number b y j ≡ w → 0 < y → int_eq w (pos 0) ≡ false
some_is b y j w is some =
    let more = size_some y j some in
    sym (ap (λ z. int_eq z (pos 0)) is) ∙ int_eq-signed b (y * 10 ^ j) ∙ grind (arith, nat_tests)

pub remainder-none : (z : ℤ) (b : Bool) (y j : ℕ) (w : ℤ) → number b y j ≡ w → y ≡ 0
    → Some None ≡ remainder z w
unfolding remainder
remainder-none z b y j w is none = rw (none_is b y j w is none) refl

pub remainder-some : (y z : ℤ) (b : Bool) (size j : ℕ) (v w : ℤ) {found : Option ℤ} → y ≡ z
    → number b size j ≡ v → v ≡ w → 0 < size
    → found ≡ if_scaled 0 y v (in_range (int_rem y v)) → option_map Some found ≡ remainder z w
unfolding remainder
remainder-some y z b size j v w one is two some found =
    let divides = some_is b size j w (is ∙ two) some in
    rw divides
    (ap (option_map Some) (found ∙ ap₂ (λ m n. if_scaled 0 m n (in_range (int_rem m n))) one two))

pub quotient9-none : (z : ℤ) (b : Bool) (y j : ℕ) (w : ℤ) → number b y j ≡ w → y ≡ 0
    → Some None ≡ quotient9 z w
unfolding quotient9
quotient9-none z b y j w is none = rw (none_is b y j w is none) refl

pub quotient9-some : (y z : ℤ) (b : Bool) (size j : ℕ) (v w : ℤ) {found : Option ℤ} → y ≡ z
    → number b size j ≡ v → v ≡ w → 0 < size
    → found ≡ if_scaled 9 y v (dec_of (nearest_quotient (y *ℤ pos (10 ^ 9)) v) (negsuc 8))
    → option_map Some found ≡ quotient9 z w
unfolding quotient9
quotient9-some y z b size j v w one is two some found =
    let divides = some_is b size j w (is ∙ two) some in
    rw divides
    (ap (option_map Some)
    (found
    ∙ ap₂ (λ m n. if_scaled 9 m n (dec_of (nearest_quotient (m *ℤ pos (10 ^ 9)) n) (negsuc 8))) one
    two))

pub multiple-some : (y z v w : ℤ) {found : Option ℤ} → y ≡ z → v ≡ w
    → found ≡ if_scaled 0 y v (in_range (nearest_quotient y v *ℤ v)) → found ≡ nearest_multiple z w
unfolding nearest_multiple
multiple-some y z v w one two found =
    found ∙ ap₂ (λ m n. if_scaled 0 m n (in_range (nearest_quotient m n *ℤ n))) one two

-- a number above zero has a size
pub above_zero : (b : Bool) (y j : ℕ) (w : ℤ) → number b y j ≡ w → pos 0 <ℤ w → 0 < y
above_zero b zero j w is above =
    let nought : number b 0 j ≡ pos 0 = ap (signed b) (omega arith) ∙ signed-zero b in
    let none : w ≡ pos 0 = sym is ∙ nought in
    absurd (omega (arith, ints))
above_zero b (suc y) j w is above = omega arith

-- a dividend and a divisor at the lesser of their shifts

no_gap : (size i j : ℕ) → i < j → size ≡ size * 10 ^ (i - j)
no_gap size i j less =
    let none : i - j ≡ 0 = omega arith in
    sym (ap (λ k. size * 10 ^ k) none ∙ omega arith)

pub lower_dividend : (n d : Scaled) (r : Option ℕ) → n.size < 10 ^ 38 → 0 < d.size
    → n.shift < d.shift
    → IfSome r (λ v. v ≡ d.size * 10 ^ (d.shift - n.shift))
    → IfNone r (2 ^ 128 ≤ d.size * 10 ^ (d.shift - n.shift))
    → IsAligned n d (record { dividend = n.size; divisor = r; shift = n.shift })
lower_dividend n d (Some v) few some low is wide = record {
  scaled = no_gap n.size n.shift d.shift low;
  few = few;
  dividend_is = refl;
  divisor_is = λ w same.
      let v_is : v ≡ w = cc in
      lowered_size d.size d.shift n.shift v (omega arith) is ∙ ap (λ k. k * 10 ^ n.shift) v_is;
  some = λ w same.
      let v_is : v ≡ w = cc in
      omega (arith, size_some d.size (d.shift - n.shift) some);
  far = λ none. absurd (cc);
}
lower_dividend n d None few some low is wide = record {
  scaled = no_gap n.size n.shift d.shift low;
  few = few;
  dividend_is = refl;
  divisor_is = λ w same. absurd (cc);
  some = λ w same. absurd (cc);
  far = λ none.
      let raised = d.size * 10 ^ (d.shift - n.shift) in
      let less : 2 * n.size < d.size * 10 ^ (d.shift - n.shift) = omega arith in
      let times : 2 * n.size * 10 ^ n.shift < d.size * 10 ^ (d.shift - n.shift) * 10 ^ n.shift =
      mul-lt-mul_of_pos_right less (ten_pos n.shift) in
      let twice = mul_assoc 2 n.size (10 ^ n.shift) in
      let whole_d = lowered_size d.size d.shift n.shift raised (omega arith) refl in
      omega arith;
}

pub lower_divisor : (n d : Scaled) (size : ℕ) → 0 < d.size → d.shift ≤ n.shift
    → size ≡ n.size * 10 ^ (n.shift - d.shift) → size < 10 ^ 38
    → IsAligned n d (record { dividend = size; divisor = Some d.size; shift = d.shift })
lower_divisor n d size some low is few = record {
  scaled = is;
  few = few;
  dividend_is = lowered_size n.size n.shift d.shift size low is;
  divisor_is = λ w same.
      let d_is : d.size ≡ w = cc in
      ap (λ k. k * 10 ^ d.shift) d_is;
  some = λ w same.
      let d_is : d.size ≡ w = cc in
      omega arith;
  far = λ none. absurd (cc);
}

-- what comes of them
module _ (n d : Scaled) (both : Aligned) (is : IsAligned n d both) where
  pub some_rest : (v : ℕ) → both.divisor ≡ Some v
      → both.dividend % v * 10 ^ both.shift ≡ whole n % whole d
  some_rest v some =
      sym (ap₂ (λ m k. m % k) is.dividend_is (is.divisor_is v some)
      ∙ mod_times both.dividend v (10 ^ both.shift) (ten_pos both.shift))

  pub none_rest : both.divisor ≡ None → both.dividend * 10 ^ both.shift ≡ whole n % whole d
  none_rest none =
      let less : whole n < whole d = omega (arith, is.far none) in
      sym (mod-eq_of_lt less ∙ is.dividend_is)

  pub some_quotient : (v q : ℕ) → both.divisor ≡ Some v → q ≡ nearest both.dividend v
      → q ≡ nearest (whole n) (whole d)
  some_quotient v q some found =
      found
      ∙ sym (ap₂ nearest is.dividend_is (is.divisor_is v some)
      ∙ nearest_times both.dividend v (10 ^ both.shift) (ten_pos both.shift))

  pub none_quotient : both.divisor ≡ None → 0 ≡ nearest (whole n) (whole d)
  none_quotient none = nearest_far (whole n) (whole d) (is.far none)

  pub some_multiple : (v q : ℕ) → both.divisor ≡ Some v → q ≡ nearest both.dividend v
      → q * v * 10 ^ both.shift ≡ nearest (whole n) (whole d) * whole d
  some_multiple v q some found =
      mul_assoc q v (10 ^ both.shift)
      ∙ ap₂ (λ m k. m * k) (some_quotient v q some found) (sym (is.divisor_is v some))

  pub none_multiple : both.divisor ≡ None
      → 0 * 10 ^ both.shift ≡ nearest (whole n) (whole d) * whole d
  none_multiple none =
      let nought : 0 * 10 ^ both.shift ≡ 0 * whole d = omega arith in
      nought ∙ ap (λ q. q * whole d) (none_quotient none)

pub whole_is : (n : Scaled) (x i : ℕ) → n.size ≡ x → n.shift ≡ i → whole n ≡ x * 10 ^ i
whole_is n x i size shift = ap₂ (λ s k. s * 10 ^ k) size shift

module _ (noughts : ℕ) (a : Bool) (x i : ℕ) (b : Bool) (y j : ℕ) (one : IsDecForm a x i)
    (two : IsDecForm b y j)
    (n d : Scaled) (n_size : n.size ≡ x) (n_shift : n.shift ≡ i + noughts)
    (d_shift : d.shift ≡ j + 0) where
  gap : scaled_dividend noughts (number a x i) (number b y j) ≡ n.size * 10 ^ (n.shift - d.shift)
  gap =
      let same : i + noughts - j ≡ n.shift - d.shift = omega arith in
      scaled_is noughts a x i b y j one two ∙ ap₂ (λ s k. s * 10 ^ k) (sym n_size) same

  pub within : (both : Aligned) {found wanted : Option ℤ} → IsAligned n d both → found ≡ wanted
      → found ≡ if_scaled noughts (number a x i) (number b y j) wanted
  within both is found =
      if_scaled-found noughts (number a x i) (number b y j) both.dividend (gap ∙ sym is.scaled)
      is.few found

  pub beyond : (wanted : Option ℤ) → 10 ^ 38 ≤ n.size * 10 ^ (n.shift - d.shift)
      → None ≡ if_scaled noughts (number a x i) (number b y j) wanted
  beyond wanted wide =
      if_scaled-wide noughts (number a x i) (number b y j) (n.size * 10 ^ (n.shift - d.shift))
      wanted gap wide
