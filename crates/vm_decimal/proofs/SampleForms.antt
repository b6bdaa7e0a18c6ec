-- The normal form of a sample is that of a decimal number.
use Rattle.std.specs.Prelude.{◌≡◌, ℕ, zero, suc, ◌/◌, ◌%◌, ◌<◌, ◌≤◌, ◌^◌, ◌&&◌, nat_lt, nat_le, ℤ, pos, ◌+ℤ◌, ◌-ℤ◌, unsigned_abs, Bool, true, false}
use Rattle.std.specs.Int.{is_negative}
use Rattle.std.proofs.Common.{refl, arith, sym, ap, ◌∙◌, ⊎_elim}
use Rattle.std.proofs.lemmas.Bool.{cases_eq}
use Rattle.std.proofs.lemmas.Bool.Decides.{nat_tests}
use Rattle.std.proofs.lemmas.Int.{ints}
use Rattle.vm_base.specs.Form.{stripped-last, stripped-nought, form_of-zero, form_of-other, unsigned_abs-signed}
use Rattle.vm_base.specs.Number.{number, signed, stripped, form_of}
use Rattle.vm_base.specs.Sample.{is_sample, mantissa, exponent}
use Rattle.vm_base.proofs.NumberLaws.{number-form_of}
use Rattle.vm_decimal.specs.Dec.{IsDecForm}

-- where fewer zeros were stripped than could be, none is left
last_digit : (more size : ℕ) → 0 < size → (stripped more size).1 < more
    → (stripped more size).0 % 10 ≡ 0 → ⊥
last_digit zero size some few end = absurd (omega arith)
last_digit (suc more) size some few end =
    ⊎_elim
    (λ nought.
    let step = stripped-nought more size nought in
    let fewer : (stripped more (size / 10)).1 < more = omega (arith, ap (λ p. p.1) step) in
    last_digit more (size / 10) (omega arith) fewer (sym (ap (λ p. p.0 % 10) step) ∙ end))
    (λ last. last (sym (ap (λ p. p.0 % 10) (stripped-last more size last)) ∙ end))
    (cases_eq (size % 10) 0)

limits : (size shift : ℕ) → (nat_lt size (10 ^ 18) && nat_le 650 shift && nat_le shift 1350) ≡ true
    → (size < 10 ^ 38) × (shift ≤ 1350)
limits size shift is = grind (arith, nat_tests)

sample_form : (z : ℤ) → is_sample z ≡ true
    → IsDecForm (form_of z).negative (form_of z).size (form_of z).shift
sample_form z is =
    let within = limits (form_of z).size (form_of z).shift is in
    ⊎_elim
    (λ none.
    rw (form_of-zero z none) (record {
      few = omega arith;
      high = omega arith;
      short = λ _. refl;
      plus = λ _. refl;
      here = λ _. refl;
    }))
    (λ some.
    let bare = stripped 2001 (unsigned_abs z) in
    let parts = form_of-other z (is_negative z) bare.0 bare.1 (omega arith) refl refl in
    let shift_is : (form_of z).shift ≡ (stripped 2001 (unsigned_abs z)).1 =
    ap (λ f. f.shift) parts in
    let size_is : (form_of z).size ≡ (stripped 2001 (unsigned_abs z)).0 = ap (λ f. f.size) parts in
    let near : (stripped 2001 (unsigned_abs z)).1 < 2001 = omega (arith, within.1, shift_is) in
    let last : (form_of z).size % 10 ≡ 0 → ⊥ =
    λ end. last_digit 2001 (unsigned_abs z) (omega arith) near
    (sym (ap (λ n. n % 10) size_is) ∙ end) in
    let other : (form_of z).size ≡ 0 → ⊥ = λ none. last (ap (λ n. n % 10) none) in
    record {
      few = within.0;
      high = omega (arith, within.1);
      short = λ end. absurd (last end);
      plus = λ none. absurd (other none);
      here = λ none. absurd (other none);
    })
    (cases_eq (unsigned_abs z) 0)

-- the sign of a number in normal form
sign_is : (negative : Bool) (size : ℕ) → (size ≡ 0 → negative ≡ false)
    → is_negative (signed negative size) ≡ negative
sign_is false size plus = grind (arith, nat_tests)
sign_is true zero plus = sym (plus refl)
sign_is true (suc size) plus = refl

shift_is : (e : ℤ) (shift place : ℕ) → e ≡ pos place -ℤ pos 1000 → pos shift ≡ e +ℤ pos 1000
    → shift ≡ place
shift_is e shift place is at = omega (arith, ints)

-- the parts of a sample are those of its form
same_parts : (z m e : ℤ) (size shift : ℕ) → is_sample z ≡ true → m ≡ mantissa z
    → size ≡ unsigned_abs m → e ≡ exponent z → pos shift ≡ e +ℤ pos 1000
    → (is_negative m ≡ (form_of z).negative) × (size ≡ (form_of z).size)
    × (shift ≡ (form_of z).shift)
same_parts z m e size shift is mantissa_is size_is exponent_is at =
    let form = form_of z in (
      ap is_negative mantissa_is ∙ sign_is form.negative form.size (sample_form z is).plus,
      size_is ∙ ap unsigned_abs mantissa_is ∙ unsigned_abs-signed form.negative form.size,
      shift_is e shift form.shift exponent_is at,
    )

pub dec_form : (z m e : ℤ) (size shift : ℕ) → is_sample z ≡ true → m ≡ mantissa z
    → size ≡ unsigned_abs m → e ≡ exponent z → pos shift ≡ e +ℤ pos 1000
    → IsDecForm (is_negative m) size shift
dec_form z m e size shift is mantissa_is size_is exponent_is at =
    let same = same_parts z m e size shift is mantissa_is size_is exponent_is at in
    rw (same.0, same.1, same.2) (sample_form z is)

pub dec_number : (z m e : ℤ) (size shift : ℕ) → is_sample z ≡ true → m ≡ mantissa z
    → size ≡ unsigned_abs m → e ≡ exponent z → pos shift ≡ e +ℤ pos 1000
    → number (is_negative m) size shift ≡ z
dec_number z m e size shift is mantissa_is size_is exponent_is at =
    let same = same_parts z m e size shift is mantissa_is size_is exponent_is at in
    rw (same.0, same.1, same.2) (number-form_of z)
