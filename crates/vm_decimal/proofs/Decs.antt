-- Which numbers are within the limits, and what a mantissa and an exponent give.
use Rattle.std.proofs.Common.{◌≡◌, ℕ, suc, ◌+◌, ◌-◌, ◌*◌, ◌/◌, ◌%◌, ◌^◌, ◌<◌, ◌≤◌, ◌&&◌, ◌==◌, if◌then◌else◌, nat_lt, nat_le, ℤ, pos, negsuc, ◌+ℤ◌, ◌-ℤ◌, int_le, Bool, true, false, Option, Some, None, refl, ap, sym, ◌∙◌, ⊎_elim, arith, pow-add}
use Rattle.std.proofs.Math.Nat.{zero-div, zero-mod, mul_assoc, mul-div_cancel, mul-mod_left}
use Rattle.std.proofs.lemmas.Bool.{cases_lt}
use Rattle.std.proofs.lemmas.Bool.Decides.{nat_tests}
use Rattle.std.proofs.lemmas.Int.{ints}
use Rattle.std.proofs.lemmas.Nat.{div-add-mod'}
use Rattle.vm_base.specs.Form.{form_of-number, form_of-zero, ten_pos, tens}
use Rattle.vm_base.specs.Number.{signed, number, form_of}
use Rattle.vm_base.proofs.NumberLaws.{signed-zero, nonzero, form_of-far, scaled-up, scaled-down}
use Rattle.vm_decimal.specs.Dec.{is_dec, in_range, dec_of}
use Rattle.vm_decimal.specs.Parts.{placed}

-- which numbers are within the limits

-- the limits of a form, the first as a test
abbrev is_within : Bool → ℕ → Bool
is_within few shift = few && nat_le shift 2000

too_high : (few : Bool) (shift : ℕ) → 2000 < shift → is_within few shift ≡ false
too_high few shift far = grind (arith, nat_tests)

-- a number whose size doesn't end with 0
pub is_dec-number : (minus : Bool) (size shift : ℕ) → (size % 10 ≡ 0 → ⊥)
    → is_dec (number minus size shift) ≡ (nat_lt size (10 ^ 38) && nat_le shift 2000)
is_dec-number minus size shift last =
    ⊎_elim
    (λ near.
    let some = nonzero size last in
    let form = form_of-number minus size shift (λ h. absurd (last h)) (λ h. absurd (omega arith))
    (λ h. absurd (omega arith)) (omega arith) in
    rw form refl)
    (λ far.
    let form = form_of (number minus size shift) in
    let noughts : form.shift ≡ 2001 = form_of-far minus size shift last far in
    too_high (nat_lt form.size (10 ^ 38)) form.shift (omega arith)
    ∙ sym (too_high (nat_lt size (10 ^ 38)) shift (omega arith)))
    (cases_lt shift 2001)

pub is_dec-zero : is_dec (pos 0) ≡ true
is_dec-zero = rw (form_of-zero (pos 0) refl) refl

-- numbers that are placed

both_limits : (few : Bool) (shift : ℕ)
    → (few && int_le (pos 0) (pos shift) && int_le (pos shift) (pos 2000))
    ≡ (few && nat_le shift 2000)
both_limits few shift = grind (arith, nat_tests)

pub in_range-number : (minus : Bool) (size shift : ℕ) → (size % 10 ≡ 0 → ⊥)
    → in_range (number minus size shift) ≡ placed minus size (pos shift)
in_range-number minus size shift last =
    rw (is_dec-number minus size shift last, both_limits (nat_lt size (10 ^ 38)) shift) refl

none_low : (a b : Bool) (found : Option ℤ) → (if a && false && b then found else None) ≡ None
none_low true b found = refl
none_low false b found = refl

pub placed_low : (minus : Bool) (size down : ℕ) → placed minus size (negsuc down) ≡ None
placed_low minus size down =
    none_low (nat_lt size (10 ^ 38)) (int_le (negsuc down) (pos 2000))
    (Some (number minus size (suc down)))

-- zeros of the size and zeros of the shift
pub noughts_add : (size noughts shift : ℕ)
    → size * 10 ^ noughts * 10 ^ shift ≡ size * 10 ^ (noughts + shift)
noughts_add size noughts shift =
    mul_assoc size (10 ^ noughts) (10 ^ shift) ∙ ap (λ n. size * n) (sym (pow-add 10 noughts shift))

-- with fewer zeros than are asked for, a number is divided with a rest
rest_left : (size noughts more : ℕ) → (size % 10 ≡ 0 → ⊥)
    → size * 10 ^ noughts % 10 ^ (suc more + noughts) ≡ 0 → ⊥
rest_left size noughts more last none =
    let by = 10 ^ (suc more + noughts) in
    let whole = size * 10 ^ noughts in
    let q = whole / by in
    let back : q * by + whole % by ≡ whole = div-add-mod' whole by in
    let parts : q * by ≡ q * 10 ^ suc more * 10 ^ noughts =
    sym (noughts_add q (suc more) noughts) in
    let same : q * 10 ^ suc more * 10 ^ noughts ≡ size * 10 ^ noughts = omega arith in
    let cut : q * 10 ^ suc more ≡ size =
    sym (mul-div_cancel (q * 10 ^ suc more) (ten_pos noughts)) ∙ ap (λ n. n / 10 ^ noughts) same
    ∙ mul-div_cancel size (ten_pos noughts) in
    let ten = tens q more in
    last (omega arith)

-- a size that doesn't end with 0, and zeros after it
module _ (minus : Bool) (size noughts : ℕ) (last : size % 10 ≡ 0 → ⊥) where
  -- where the exponent leaves at least so many zeros
  enough : (e : ℤ) (down left : ℕ) → noughts ≡ left + suc down → e +ℤ pos 1000 ≡ negsuc down
      → dec_of (signed minus (size * 10 ^ noughts)) e ≡ placed minus size (pos left)
  unfolding dec_of
  enough e down left split at =
      let by = 10 ^ suc down in
      let whole = size * 10 ^ noughts in
      let parts : size * 10 ^ noughts ≡ size * 10 ^ left * 10 ^ suc down =
      ap (λ n. size * 10 ^ n) split ∙ sym (noughts_add size left (suc down)) in
      let rest : whole % by ≡ 0 = ap (λ n. n % by) parts ∙ mul-mod_left (size * 10 ^ left) by in
      let cut : whole / by ≡ size * 10 ^ left =
      ap (λ n. n / by) parts ∙ mul-div_cancel (size * 10 ^ left) (ten_pos (suc down)) in
      let test : (whole % by == 0) ≡ true = grind (arith, nat_tests) in
      rw (scaled-down minus whole down e at, test, cut) (in_range-number minus size left last)

  -- and where it doesn't
  short : (e : ℤ) (down more : ℕ) → down ≡ more + noughts → e +ℤ pos 1000 ≡ negsuc down
      → dec_of (signed minus (size * 10 ^ noughts)) e ≡ None
  unfolding dec_of
  short e down more split at =
      let by = 10 ^ suc down in
      let whole = size * 10 ^ noughts in
      let rest : whole % by ≡ 0 → ⊥ =
      λ h. rest_left size noughts more last (ap (λ n. whole % 10 ^ n) (omega arith) ∙ h) in
      let test : (whole % by == 0) ≡ false = grind (arith, nat_tests) in
      rw (scaled-down minus whole down e at, test) refl

  by_place : (e shift place : ℤ) → shift ≡ e +ℤ pos (1000 + noughts) → e +ℤ pos 1000 ≡ place
      → dec_of (signed minus (size * 10 ^ noughts)) e ≡ placed minus size shift
  unfolding dec_of
  by_place e shift (pos up) is at =
      let shift_is : shift ≡ pos (noughts + up) = omega (arith, ints) in
      rw (scaled-up minus (size * 10 ^ noughts) up e at, noughts_add size noughts up, shift_is)
      (in_range-number minus size (noughts + up) last)
  by_place e shift (negsuc down) is at =
      ⊎_elim
      (λ (few : noughts < suc down).
      let more : ℕ = down - noughts in
      let shift_is : shift ≡ negsuc more = omega (arith, ints) in
      short e down more (omega arith) at
      ∙ sym (ap (placed minus size) shift_is ∙ placed_low minus size more))
      (λ (many : suc down ≤ noughts).
      let left : ℕ = noughts - suc down in
      let shift_is : shift ≡ pos left = omega (arith, ints) in
      enough e down left (omega arith) at ∙ ap (placed minus size) (sym shift_is))
      (cases_lt noughts (suc down))

  pub dec_of-placed : (e shift : ℤ) → shift ≡ e +ℤ pos (1000 + noughts)
      → dec_of (signed minus (size * 10 ^ noughts)) e ≡ placed minus size shift
  dec_of-placed e shift is = by_place e shift (e +ℤ pos 1000) is refl

-- zero at any exponent
zero_at : (e place : ℤ) → e +ℤ pos 1000 ≡ place → dec_of (pos 0) e ≡ Some (pos 0)
unfolding dec_of
zero_at e (pos up) at =
    let none : 0 * 10 ^ up ≡ 0 = omega arith in
    rw (scaled-up false 0 up e at, none, is_dec-zero) refl
zero_at e (negsuc down) at =
    let by = 10 ^ suc down in
    rw (scaled-down false 0 down e at, zero-div by, zero-mod by, is_dec-zero) refl

pub dec_of-zero : (e : ℤ) → dec_of (pos 0) e ≡ Some (pos 0)
dec_of-zero e = zero_at e (e +ℤ pos 1000) refl

pub dec_of-none : (minus : Bool) (size : ℕ) (e : ℤ) → size ≡ 0
    → Some (pos 0) ≡ dec_of (signed minus size) e
dec_of-none minus size e none =
    sym (ap (λ n. dec_of (signed minus n) e) none ∙ ap (λ z. dec_of z e) (signed-zero minus)
    ∙ dec_of-zero e)

-- the same of a mantissa by its size, for what was placed
pub dec_of-size : (minus : Bool) (size bare noughts : ℕ) (e : ℤ) {shift : ℤ} {found : Option ℤ}
    → found ≡ placed minus bare shift → size ≡ bare * 10 ^ noughts
    → (bare % 10 ≡ 0 → ⊥) → shift ≡ e +ℤ pos (1000 + noughts)
    → found ≡ dec_of (signed minus size) e
dec_of-size minus size bare noughts e {shift} found whole last is =
    found ∙ sym
    (ap (λ n. dec_of (signed minus n) e) whole
    ∙ dec_of-placed minus bare noughts last e shift is)

-- within the limits a number is placed
pub placed_within : (minus : Bool) (size shift : ℕ) → size < 10 ^ 38 → shift ≤ 2000
    → placed minus size (pos shift) ≡ Some (number minus size shift)
placed_within minus size shift few high =
    let all : (nat_lt size (10 ^ 38) && int_le (pos 0) (pos shift) && int_le (pos shift) (pos 2000))
    ≡ true =
    grind (arith, nat_tests) in
    rw all refl

-- with more than 38 digits it isn't
pub placed_wide : (minus : Bool) (size : ℕ) (shift : ℤ) → 10 ^ 38 ≤ size
    → placed minus size shift ≡ None
placed_wide minus size shift many =
    let wide : nat_lt size (10 ^ 38) ≡ false = grind (arith, nat_tests) in
    rw wide refl

-- `m * 10^e` for an e of -1000 or more
pub dec_of-up : (minus : Bool) (size shift : ℕ) (e : ℤ) → e ≡ pos shift -ℤ pos 1000
    → dec_of (signed minus size) e ≡ in_range (number minus size shift)
unfolding dec_of
dec_of-up minus size shift e is =
    let at : e +ℤ pos 1000 ≡ pos shift = omega (arith, ints) in
    rw (scaled-up minus size shift e at) refl

pub in_range-up : (minus : Bool) (size shift : ℕ) {e : ℤ} {found : Option ℤ}
    → found ≡ dec_of (signed minus size) e → e ≡ pos shift -ℤ pos 1000
    → found ≡ in_range (number minus size shift)
in_range-up minus size shift {e} found is = found ∙ dec_of-up minus size shift e is

-- nor with too great an exponent
pub placed_high : (minus : Bool) (size shift : ℕ) → 2000 < shift
    → placed minus size (pos shift) ≡ None
placed_high minus size shift far =
    let high : int_le (pos shift) (pos 2000) ≡ false = grind (arith, nat_tests) in
    rw high (none_high (nat_lt size (10 ^ 38)) (int_le (pos 0) (pos shift))
    (Some (number minus size shift)))
  where
    none_high : (a b : Bool) (found : Option ℤ) → (if a && b && false then found else None) ≡ None
    none_high true true found = refl
    none_high true false found = refl
    none_high false b found = refl
