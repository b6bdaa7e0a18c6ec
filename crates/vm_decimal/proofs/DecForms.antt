-- Numbers by their parts in normal form, for the proofs of those who use them.
use Rattle.std.proofs.Common.{◌≡◌, ℕ, ◌+◌, ◌*◌, ◌%◌, ◌^◌, ◌≤◌, ◌&&◌, nat_lt, nat_le, ℤ, pos, ◌+ℤ◌, ◌-ℤ◌, unsigned_abs, Bool, true, false, Some, None, refl, ap, sym, ◌∙◌, ⊎_elim, arith}
use Rattle.std.proofs.lemmas.Bool.{cases_eq}
use Rattle.std.proofs.lemmas.Bool.Decides.{nat_tests}
use Rattle.std.proofs.lemmas.Int.{ints}
use Rattle.std.specs.Int.{is_negative}
use Rattle.vm_base.specs.Form.{form_of-number, unsigned_abs-signed}
use Rattle.vm_base.specs.Number.{signed, number, form_of}
use Rattle.vm_base.specs.Sample.{mantissa, exponent, sample_of}
use Rattle.vm_base.proofs.NumberLaws.{signed-zero, signed-parts, is_negative-form, scaled-up}
use Rattle.vm_decimal.specs.Dec.{is_dec, dec_of, as_sample, IsDecForm}
use Rattle.vm_decimal.specs.declared.dec.Dec.TheInside.{Inside}
use Rattle.vm_decimal.proofs.Decs.{dec_of-placed, dec_of-zero, placed_within}

pub form_of-dec : (minus : Bool) (size shift : ℕ) → IsDecForm minus size shift
    → form_of (number minus size shift) ≡ record { negative = minus; size = size; shift = shift }
form_of-dec minus size shift is = form_of-number minus size shift is.short is.plus is.here is.high

-- the parts of a mantissa
abbrev pub InForm : Inside → Type 0
InForm s = IsDecForm (is_negative s.mantissa) (unsigned_abs s.mantissa) s.shift

abbrev pub Is : Inside → ℤ → Type 0
Is s z = number (is_negative s.mantissa) (unsigned_abs s.mantissa) s.shift ≡ z

-- the form of a number by its fields
pub form_of-inside : (s : Inside) (z : ℤ) → InForm s → Is s z
    → form_of z
    ≡ record { negative = is_negative s.mantissa; size = unsigned_abs s.mantissa; shift = s.shift }
form_of-inside s z form is =
    ap form_of (sym is)
    ∙ form_of-dec (is_negative s.mantissa) (unsigned_abs s.mantissa) s.shift form

-- the mantissa and the exponent
pub mantissa_is : (s : Inside) (z : ℤ) → InForm s → Is s z → s.mantissa ≡ mantissa z
mantissa_is s z form is = rw (form_of-inside s z form is) (sym (signed-parts s.mantissa))

pub exponent_is : (s : Inside) (z : ℤ) → InForm s → Is s z → pos s.shift -ℤ pos 1000 ≡ exponent z
exponent_is s z form is = rw (form_of-inside s z form is) refl

-- the fields of parts in normal form
pub form_by : (minus : Bool) (size shift : ℕ) (m : ℤ) (place : ℕ) → m ≡ signed minus size
    → place ≡ shift
    → IsDecForm minus size shift → IsDecForm (is_negative m) (unsigned_abs m) place
form_by minus size shift m place m_is place_is form =
    let sign : is_negative m ≡ minus = ap is_negative m_is
    ∙ is_negative-form minus size form.plus in
    let abs : unsigned_abs m ≡ size = ap unsigned_abs m_is ∙ unsigned_abs-signed minus size in
    rw (sign, abs, place_is) form

pub number_by : (minus : Bool) (size shift : ℕ) (m : ℤ) (place : ℕ) → m ≡ signed minus size
    → place ≡ shift
    → IsDecForm minus size shift
    → number (is_negative m) (unsigned_abs m) place ≡ number minus size shift
number_by minus size shift m place m_is place_is form =
    let sign : is_negative m ≡ minus = ap is_negative m_is
    ∙ is_negative-form minus size form.plus in
    let abs : unsigned_abs m ≡ size = ap unsigned_abs m_is ∙ unsigned_abs-signed minus size in
    rw (sign, abs, place_is) refl

-- a number in normal form is that of its mantissa and exponent
pub dec_of-form : (minus : Bool) (size shift : ℕ) (e : ℤ) → IsDecForm minus size shift
    → e ≡ pos shift -ℤ pos 1000
    → dec_of (signed minus size) e ≡ Some (number minus size shift)
dec_of-form minus size shift e form is =
    ⊎_elim
    (λ (none : size ≡ 0).
    let nought : number minus size shift ≡ pos 0 =
    ap (λ n. signed minus (n * 10 ^ shift)) none ∙ ap (signed minus) (omega arith)
    ∙ signed-zero minus in
    ap (λ n. dec_of (signed minus n) e) none ∙ ap (λ z. dec_of z e) (signed-zero minus)
    ∙ dec_of-zero e
    ∙ ap Some (sym nought))
    (λ (some : size ≡ 0 → ⊥).
    let last : size % 10 ≡ 0 → ⊥ = λ end. some (form.short end) in
    let whole : size * 10 ^ 0 ≡ size = omega arith in
    let at : pos shift ≡ e +ℤ pos (1000 + 0) = omega (arith, ints) in
    ap (λ n. dec_of (signed minus n) e) (sym whole)
    ∙ dec_of-placed minus size 0 last e (pos shift) at
    ∙ placed_within minus size shift form.few form.high)
    (cases_eq size 0)

-- the sample of a number in normal form
wide_sample : (size shift : ℕ) → 10 ^ 18 ≤ size
    → (nat_lt size (10 ^ 18) && nat_le 650 shift && nat_le shift 1350) ≡ false
wide_sample size shift many = grind (arith, nat_tests)

pub as_sample-wide : (minus : Bool) (size shift : ℕ) → IsDecForm minus size shift → 10 ^ 18 ≤ size
    → as_sample (number minus size shift) ≡ None
as_sample-wide minus size shift form many =
    rw (form_of-dec minus size shift form, wide_sample size shift many) refl

pub as_sample-form : (minus : Bool) (size shift : ℕ) (e : ℤ) → e ≡ pos shift -ℤ pos 1000
    → sample_of (signed minus size) e ≡ as_sample (number minus size shift)
as_sample-form minus size shift e is =
    let at : e +ℤ pos 1000 ≡ pos shift = omega (arith, ints) in
    rw (scaled-up minus size shift e at) refl

-- a number in normal form is within the limits
pub is_dec-form : (minus : Bool) (size shift : ℕ) → IsDecForm minus size shift
    → is_dec (number minus size shift) ≡ true
is_dec-form minus size shift form =
    let few = form.few in
    let high = form.high in
    let yes : (nat_lt size (10 ^ 38) && nat_le shift 2000) ≡ true = grind (arith, nat_tests) in
    rw (form_of-dec minus size shift form) yes
