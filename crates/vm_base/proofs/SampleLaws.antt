-- What holds of samples, for the proofs of those who use them.
use Rattle.std.proofs.Common.{◌≡◌, ℕ, zero, suc, ◌+◌, ◌-◌, ◌*◌, ◌/◌, ◌%◌, ◌^◌, ◌<◌, ◌≤◌, ◌&&◌, ◌==◌, if◌then◌else◌, nat_lt, nat_le, ℤ, pos, negsuc, neg_ℤ, ◌+ℤ◌, int_le, unsigned_abs, Bool, true, false, Option, Some, None, refl, ap, sym, subst, ◌∙◌, ⊎_elim, arith, pow-add}
use Rattle.std.proofs.Math.Nat.{zero-div, zero-mod, mul_assoc, one-le-mul, le-mul_of_pos_right, mul-le-mul_left}
use Rattle.std.proofs.lemmas.Bool.{cases_lt, cases_eq}
use Rattle.std.proofs.lemmas.Bool.Decides.{nat_tests}
use Rattle.std.proofs.lemmas.Int.{ints}
use Rattle.std.proofs.lemmas.Nat.{div-add-mod'}
use Rattle.std.specs.Int.{is_negative}
use Rattle.std.specs.Option.{option_and_then}
use Rattle.vm_base.specs.Form.{form_of-number, form_of-zero, ten_pos, unsigned_abs-signed}
use Rattle.vm_base.specs.Number.{signed, number, stripped, form_of}
use Rattle.vm_base.specs.Sample.{is_sample, sample_of, mantissa, exponent, IsSampleForm}
use Rattle.vm_base.proofs.Noughts.{few_noughts}
use Rattle.vm_base.proofs.NumberLaws.{signed-parts, signed-zero, is_negative-form, nonzero, stripped_whole, stripped_last, stripped_end, stripped_few, bare, form_of-bare, number-form_of, form_of-far, scaled-up, scaled-down}

-- which numbers are samples

-- the limits of a sample's form, the first as a test
abbrev pub is_within : Bool → ℕ → Bool
is_within few shift = few && nat_le 650 shift && nat_le shift 1350

too_high : (few : Bool) (shift : ℕ) → 1350 < shift → is_within few shift ≡ false
too_high few shift far = grind (arith, nat_tests)

too_low : (few : Bool) (shift : ℕ) → shift < 650 → is_within few shift ≡ false
too_low few shift far = grind (arith, nat_tests)

-- a number whose size doesn't end with 0
pub is_sample-number : (minus : Bool) (size shift : ℕ) → (size % 10 ≡ 0 → ⊥)
    → is_sample (number minus size shift)
    ≡ (nat_lt size (10 ^ 18) && nat_le 650 shift && nat_le shift 1350)
is_sample-number minus size shift last =
    ⊎_elim
    (λ near.
    let some = nonzero size last in
    let form = form_of-number minus size shift (λ h. absurd (last h)) (λ h. absurd (omega arith))
    (λ h. absurd (omega arith)) (omega arith) in
    rw form refl)
    (λ far.
    let form = form_of (number minus size shift) in
    let noughts : form.shift ≡ 2001 = form_of-far minus size shift last far in
    too_high (nat_lt form.size (10 ^ 18)) form.shift (omega arith)
    ∙ sym (too_high (nat_lt size (10 ^ 18)) shift (omega arith)))
    (cases_lt shift 2001)

pub is_sample-zero : is_sample (pos 0) ≡ true
is_sample-zero = rw (form_of-zero (pos 0) refl) refl

-- few units of 10^-1000 aren't one
pub is_sample-small : (z : ℤ) → 0 < unsigned_abs z → unsigned_abs z < 10 ^ 20 → is_sample z ≡ false
is_sample-small z some few =
    let noughts : (bare z).1 < 20 = stripped_few 2001 (unsigned_abs z) 20 some few in
    rw (form_of-bare z some) (too_low (nat_lt (bare z).0 (10 ^ 18)) (bare z).1 (omega arith))

within : (size shift : ℕ) → is_within (nat_lt size (10 ^ 18)) shift ≡ true
    → (size < 10 ^ 18) × (650 ≤ shift) × (shift ≤ 1350)
within size shift is = grind (arith, nat_tests)

zero_form : IsSampleForm false 0 1000
zero_form = record {
  few = omega arith;
  low = omega arith;
  high = omega arith;
  short = λ _. refl;
  plus = λ _. refl;
  here = λ _. refl;
}

-- the form of a sample is within the limits of samples
pub IsSampleForm-form_of : (z : ℤ) → is_sample z ≡ true
    → IsSampleForm (form_of z).negative (form_of z).size (form_of z).shift
IsSampleForm-form_of z is =
    ⊎_elim
    (λ none.
    let form = form_of-zero z none in
    subst (λ f. IsSampleForm f.negative f.size f.shift) (sym form) zero_form)
    (λ h.
    let form = form_of-bare z (omega arith) in
    let limits = within (bare z).0 (bare z).1 (rw form at is) in
    let last : (bare z).0 % 10 ≡ 0 → ⊥ =
    stripped_end 2001 (unsigned_abs z) (omega (arith, limits.2)) in
    subst (λ f. IsSampleForm f.negative f.size f.shift) (sym form)
    (record {
      few = limits.0;
      low = limits.1;
      high = limits.2;
      short = λ k. absurd (last k);
      plus = λ k. absurd (last (ap (λ n. n % 10) k));
      here = λ k. absurd (last (ap (λ n. n % 10) k));
    }))
    (cases_eq (unsigned_abs z) 0)

-- the mantissa and the exponent of a sample give its form, and its form gives it back
pub sample_parts : (z m e : ℤ) → is_sample z ≡ true → m ≡ mantissa z → e ≡ exponent z
    → IsSampleForm (is_negative m) (unsigned_abs m) (unsigned_abs (e +ℤ pos 1000))
    × (number (is_negative m) (unsigned_abs m) (unsigned_abs (e +ℤ pos 1000)) ≡ z)
sample_parts z m e is m_is e_is =
    let f = form_of z in
    let form = IsSampleForm-form_of z is in
    let size : unsigned_abs m ≡ f.size = ap unsigned_abs m_is
    ∙ unsigned_abs-signed f.negative f.size in
    let sign : is_negative m ≡ f.negative =
    ap is_negative m_is ∙ is_negative-form f.negative f.size form.plus in
    let place : e +ℤ pos 1000 ≡ pos f.shift = omega (arith, ints) in
    let shift : unsigned_abs (e +ℤ pos 1000) ≡ f.shift = ap unsigned_abs place in
    (rw (size, sign, shift) form, rw (size, sign, shift) (number-form_of z))

-- samples of a mantissa and an exponent

-- the number of a size and a shift, where that is within the limits
abbrev pub placed : Bool → ℕ → ℤ → Option ℤ
placed minus size shift =
    if nat_lt size (10 ^ 18) && int_le (pos 650) shift && int_le shift (pos 1350)
    then Some (number minus size (unsigned_abs shift)) else None

placed_within : (minus : Bool) (size shift : ℕ) → size < 10 ^ 18 → 650 ≤ shift → shift ≤ 1350
    → placed minus size (pos shift) ≡ Some (number minus size shift)
placed_within minus size shift few low high =
    let all : is_within (nat_lt size (10 ^ 18)) shift ≡ true = grind (arith, nat_tests) in
    rw all refl

none_between : (a b : Bool) (found : Option ℤ) → (if a && false && b then found else None) ≡ None
none_between true b found = refl
none_between false b found = refl

placed_low : (minus : Bool) (size : ℕ) (shift : ℤ) → int_le (pos 650) shift ≡ false
    → placed minus size shift ≡ None
placed_low minus size shift low =
    let found = Some (number minus size (unsigned_abs shift)) in
    rw low (none_between (nat_lt size (10 ^ 18)) (int_le shift (pos 1350)) found)

none_found : (whole : Bool) (z : ℤ) → (whole ≡ true → is_sample z ≡ false)
    → option_and_then (λ y. if is_sample y then Some y else None) (if whole then Some z else None)
    ≡ None
none_found true z below = rw (below refl) refl
none_found false z below = refl

some_left : (size part by : ℕ) → 0 < size → part * by ≡ size → 0 < part
some_left size zero by some whole = absurd (omega arith)
some_left size (suc part) by some whole = omega arith

-- few units, divided
small_quotient : (minus : Bool) (size by : ℕ) → 0 < size → size < 10 ^ 20 → 0 < by → size % by ≡ 0
    → is_sample (signed minus (size / by)) ≡ false
small_quotient minus size by some few divides whole =
    let abs : unsigned_abs (signed minus (size / by)) ≡ size / by =
    unsigned_abs-signed minus (size / by) in
    let back : size / by * by + size % by ≡ size = div-add-mod' size by in
    let above : 0 < size / by = some_left size (size / by) by some (omega arith) in
    let below : size / by ≤ size / by * by = le-mul_of_pos_right (size / by) divides in
    is_sample-small (signed minus (size / by)) (omega arith) (omega arith)

-- zeros of the size and zeros of the shift
noughts_add : (size noughts shift : ℕ)
    → size * 10 ^ noughts * 10 ^ shift ≡ size * 10 ^ (noughts + shift)
noughts_add size noughts shift =
    mul_assoc size (10 ^ noughts) (10 ^ shift) ∙ ap (λ n. size * n) (sym (pow-add 10 noughts shift))

-- a size that doesn't end with 0, and zeros after it, fewer than 20 digits together
module _ (minus : Bool) (size noughts : ℕ) (last : size % 10 ≡ 0 → ⊥)
    (few : size * 10 ^ noughts < 10 ^ 20) (short : noughts < 20) where
  by_place : (e shift place : ℤ) → shift ≡ e +ℤ pos (1000 + noughts) → e +ℤ pos 1000 ≡ place
      → sample_of (signed minus (size * 10 ^ noughts)) e ≡ placed minus size shift
  by_place e shift (pos up) is at =
      let shift_is : shift ≡ pos (noughts + up) = omega (arith, ints) in
      let found = scaled-up minus (size * 10 ^ noughts) up e at in
      let test = is_sample-number minus size (noughts + up) last in
      rw (found, noughts_add size noughts up, shift_is, test) refl
  by_place e shift (negsuc down) is at =
      let whole = size * 10 ^ noughts in
      let by = 10 ^ suc down in
      let some : 0 < whole = one-le-mul {a = size} (nonzero size last) (ten_pos noughts) in
      let low : int_le (pos 650) shift ≡ false = grind (arith, ints) in
      let small : (whole % by == 0) ≡ true → is_sample (signed minus (whole / by)) ≡ false =
      λ h. small_quotient minus whole by some few (ten_pos (suc down)) (grind (arith, nat_tests)) in
      rw (scaled-down minus whole down e at, placed_low minus size shift low)
      (none_found (whole % by == 0) (signed minus (whole / by)) small)

  pub sample_of-placed : (e shift : ℤ) → shift ≡ e +ℤ pos (1000 + noughts)
      → sample_of (signed minus (size * 10 ^ noughts)) e ≡ placed minus size shift
  sample_of-placed e shift is = by_place e shift (e +ℤ pos 1000) is refl

-- the same of a mantissa of 64 bits
pub sample_of-stripped : (m e shift : ℤ) (size noughts : ℕ)
    → unsigned_abs m ≡ size * 10 ^ noughts → (size % 10 ≡ 0 → ⊥) → unsigned_abs m ≤ 2 ^ 63
    → shift ≡ e +ℤ pos (1000 + noughts) → sample_of m e ≡ placed (is_negative m) size shift
sample_of-stripped m e shift size noughts whole last few is =
    let minus = is_negative m in
    let m_is : m ≡ signed minus (size * 10 ^ noughts) = sym (signed-parts m)
    ∙ ap (signed minus) whole in
    let short = few_noughts size noughts (nonzero size last) (omega arith) in
    ap (λ z. sample_of z e) m_is
    ∙ sample_of-placed minus size noughts last (omega arith) short e shift is

zero_at : (e place : ℤ) → e +ℤ pos 1000 ≡ place → sample_of (pos 0) e ≡ Some (pos 0)
zero_at e (pos up) at =
    let none : 0 * 10 ^ up ≡ 0 = omega arith in
    rw (scaled-up false 0 up e at, none, is_sample-zero) refl
zero_at e (negsuc down) at =
    let by = 10 ^ suc down in
    rw (scaled-down false 0 down e at, zero-div by, zero-mod by, is_sample-zero) refl

-- zero at any exponent
pub sample_of-zero : (e : ℤ) → sample_of (pos 0) e ≡ Some (pos 0)
sample_of-zero e = zero_at e (e +ℤ pos 1000) refl

-- a mantissa with decimal places

-- whether it is the sample of its digits
abbrev Reads : Bool → ℕ → ℕ → Type 0
Reads minus places size =
    sample_of (signed minus size) (neg_ℤ (pos places)) ≡ Some (number minus size (1000 - places))

reads_zero : (minus : Bool) (places : ℕ) → Reads minus places 0
reads_zero minus places =
    let e = neg_ℤ (pos places) in
    let nought : number minus 0 (1000 - places) ≡ pos 0 = ap (signed minus) (omega arith)
    ∙ signed-zero minus in
    ap (λ z. sample_of z e) (signed-zero minus) ∙ sample_of-zero e ∙ ap Some (sym nought)

reads_noughts : (minus : Bool) (size noughts places : ℕ) → (size % 10 ≡ 0 → ⊥)
    → size * 10 ^ noughts < 10 ^ 18 → noughts < 18 → places ≤ 350
    → Reads minus places (size * 10 ^ noughts)
reads_noughts minus size noughts places last few short near =
    let shift : ℕ = noughts + (1000 - places) in
    let below : size * 1 ≤ size * 10 ^ noughts =
    mul-le-mul_left {m = 1} {n = 10 ^ noughts} size (ten_pos noughts) in
    let e_is : pos shift ≡ neg_ℤ (pos places) +ℤ pos (1000 + noughts) = omega (arith, ints) in
    sample_of-placed minus size noughts last (omega arith) (omega arith) (neg_ℤ (pos places))
    (pos shift) e_is
    ∙ placed_within minus size shift (omega arith) (omega arith) (omega arith)
    ∙ ap (λ n. Some (signed minus n)) (sym (noughts_add size noughts (1000 - places)))

-- up to 18 digits and 350 places are always a sample
pub sample_of-fraction : (minus : Bool) (size places : ℕ) → size < 10 ^ 18 → places ≤ 350
    → sample_of (signed minus size) (neg_ℤ (pos places)) ≡ Some (number minus size (1000 - places))
sample_of-fraction minus size places few near =
    ⊎_elim
    (λ none. subst (Reads minus places) (sym none) (reads_zero minus places))
    (λ h.
    let some : 0 < size = omega arith in
    let p = stripped 18 size in
    let whole : p.0 * 10 ^ p.1 ≡ size = stripped_whole 18 size in
    let last = stripped_last 18 size some few in
    let short = stripped_few 18 size 18 some few in
    subst (Reads minus places) whole
    (reads_noughts minus p.0 p.1 places last (omega arith) short near))
    (cases_eq size 0)
