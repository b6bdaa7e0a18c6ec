-- The order of numbers by their fields.
use Rattle.std.proofs.Common.{◌≡◌, ℕ, zero, suc, ◌-◌, ◌*◌, ◌^◌, ◌<◌, ◌≤◌, ◌==◌, ℤ, pos, neg_ℤ, unsigned_abs, Bool, true, false, Less, Greater, refl, ap, sym, ◌∙◌, ⊎_elim, arith, pow-add}
use Rattle.std.proofs.Math.Nat.{one-le-mul, mul-lt-mul_of_pos_right, mul_assoc}
use Rattle.std.proofs.lemmas.Bool.{cases_eq, cases_order}
use Rattle.std.proofs.lemmas.Bool.Decides.{nat_tests, Decides-int_eq}
use Rattle.std.specs.Int.{is_negative}
use Rattle.std.specs.Ordering.{nat_cmp, int_eq, int_cmp}
use Rattle.vm_base.specs.Form.{ten_pos}
use Rattle.vm_base.specs.Number.{signed, number, form_of}
use Rattle.vm_base.proofs.NumberLaws.{signed-parts}
use Rattle.vm_decimal.specs.declared.dec.Dec.TheInside.{Inside}
use Rattle.vm_decimal.proofs.DecForms.{InForm, Is, form_of-inside}

-- a size with zeros after it that passes 128 bits is above each other
pub above : (size gap other : ℕ) → 2 ^ 128 ≤ size * 10 ^ gap → other < 10 ^ 38
    → Greater ≡ nat_cmp (size * 10 ^ gap) other
above size gap other wide few =
    let more : other < size * 10 ^ gap = omega arith in
    grind (arith, nat_tests)

-- a factor of both sides counts for nothing
same_factor : (one two by : ℕ) → 0 < by → nat_cmp (one * by) (two * by) ≡ nat_cmp one two
same_factor one two by some =
    ⊎_elim
    (λ h. rw h (grind (arith, nat_tests)))
    (⊎_elim
    (λ h.
    let less : one * by < two * by = mul-lt-mul_of_pos_right h some in
    grind (arith, nat_tests))
    (λ h.
    let greater : two * by < one * by = mul-lt-mul_of_pos_right h some in
    grind (arith, nat_tests)))
    (cases_order one two)

pub same_shift : (one two shift other : ℕ) → shift ≡ other
    → nat_cmp one two ≡ nat_cmp (one * 10 ^ shift) (two * 10 ^ other)
same_shift one two shift other is =
    rw (← is) (sym (same_factor one two (10 ^ shift) (ten_pos shift)))

pub higher_shift : (one two high low : ℕ) → low ≤ high
    → nat_cmp (one * 10 ^ (high - low)) two ≡ nat_cmp (one * 10 ^ high) (two * 10 ^ low)
higher_shift one two high low over =
    let raised = one * 10 ^ (high - low) in
    let shifts : 10 ^ (high - low) * 10 ^ low ≡ 10 ^ high =
    sym (pow-add 10 (high - low) low) ∙ ap (λ n. 10 ^ n) (omega arith) in
    let whole : raised * 10 ^ low ≡ one * 10 ^ high =
    mul_assoc one (10 ^ (high - low)) (10 ^ low) ∙ ap (λ n. one * n) shifts in
    sym (same_factor raised two (10 ^ low) (ten_pos low))
    ∙ ap (λ n. nat_cmp n (two * 10 ^ low)) whole

-- equal numbers have equal fields
pub unlike : (s o : Inside) (y z : ℤ) → InForm s → InForm o → Is s y → Is o z
    → (s.mantissa ≡ o.mantissa → s.shift ≡ o.shift → ⊥) → false ≡ int_eq y z
unlike s o y z form other is_y is_z differ =
    let apart : y ≡ z → ⊥ = λ h.
    let forms = sym (form_of-inside s y form is_y) ∙ ap form_of h ∙ form_of-inside o z other is_z in
    let mantissas : s.mantissa ≡ o.mantissa =
    sym (signed-parts s.mantissa) ∙ ap (λ f. signed f.negative f.size) forms
    ∙ signed-parts o.mantissa in
    differ mantissas (ap (λ f. f.shift) forms) in
    grind (arith, Decides-int_eq y z)

pub alike : (s o : Inside) (y z : ℤ) → InForm s → InForm o → Is s y → Is o z
    → s.mantissa ≡ o.mantissa → (s.shift == o.shift) ≡ int_eq y z
alike s o y z form other is_y is_z mantissas =
    ⊎_elim
    (λ shifts.
    let parts : number (is_negative s.mantissa) (unsigned_abs s.mantissa) s.shift
    ≡ number (is_negative o.mantissa) (unsigned_abs o.mantissa) o.shift = cc in
    let same : y ≡ z = sym is_y ∙ parts ∙ is_z in
    grind (arith, nat_tests, Decides-int_eq y z))
    (λ differ.
    let apart : (s.shift == o.shift) ≡ false = grind (arith, nat_tests) in
    apart ∙ unlike s o y z form other is_y is_z (λ _ h. differ h))
    (cases_eq s.shift o.shift)

-- a number below zero comes before one that isn't
opposite : (n m : ℕ) → 0 < n
    → (Less ≡ int_cmp (neg_ℤ (pos n)) (pos m)) × (Greater ≡ int_cmp (pos m) (neg_ℤ (pos n)))
opposite zero m some = absurd (omega arith)
opposite (suc n) m some = (refl, refl)

pub below_zero : (a b : Bool) (x y i j : ℕ) → (x ≡ 0 → a ≡ false) → a ≡ true → b ≡ false
    → (Less ≡ int_cmp (number a x i) (number b y j))
    × (Greater ≡ int_cmp (number b y j) (number a x i))
below_zero a b x y i j plus minus plus_too =
    let some : 0 < x =
    ⊎_elim (λ none. absurd (cc (minus, plus none))) (λ h. omega arith) (cases_eq x 0) in
    let whole = one-le-mul {a = x} some (ten_pos i) in
    rw (minus, plus_too) (opposite (x * 10 ^ i) (y * 10 ^ j) whole)
