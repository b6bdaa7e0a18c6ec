-- What holds of numbers and their normal forms, for the proofs of those who use them.
use Rattle.std.proofs.Common.{◌≡◌, ℕ, zero, suc, ◌*◌, ◌/◌, ◌%◌, ◌^◌, ◌<◌, ◌≤◌, ◌==◌, if◌then◌else◌, ℤ, pos, negsuc, ◌+ℤ◌, ◌*ℤ◌, unsigned_abs, int_le, int_div, int_rem, Bool, true, false, Some, None, refl, ap, sym, ◌∙◌, ⊎_elim, arith, add-one}
use Rattle.std.proofs.Math.Nat.{zero-div, zero-mod, pow-suc, one-le-mul}
use Rattle.std.proofs.lemmas.Bool.{cases_eq}
use Rattle.std.proofs.lemmas.Bool.Decides.{nat_tests}
use Rattle.std.specs.Int.{is_negative}
use Rattle.std.specs.Ordering.{int_eq}
use Rattle.vm_base.specs.Form.{ten_pos, tens, stripped-last, stripped-nought, stripped_far, unsigned_abs-signed, is_negative-signed, form_of-zero, form_of-other}
use Rattle.vm_base.specs.Number.{signed, number, scaled, stripped, form_of}

-- signs and sizes

-- a whole number is its sign and its size
pub signed-parts : (z : ℤ) → signed (is_negative z) (unsigned_abs z) ≡ z
signed-parts (pos size) =
    let plus : is_negative (pos size) ≡ false = grind (arith, nat_tests) in
    rw plus refl
signed-parts (negsuc size) = refl

-- zero has no sign
pub signed-zero : (minus : Bool) → signed minus 0 ≡ pos 0
signed-zero true = refl
signed-zero false = refl

pub int_eq-signed : (minus : Bool) (size : ℕ) → int_eq (signed minus size) (pos 0) ≡ (size == 0)
int_eq-signed false size = grind (arith, nat_tests)
int_eq-signed true zero = refl
int_eq-signed true (suc size) = grind (arith, nat_tests)

-- the sign of a number whose zero is without one
pub is_negative-form : (minus : Bool) (size : ℕ) → (size ≡ 0 → minus ≡ false)
    → is_negative (signed minus size) ≡ minus
is_negative-form minus zero plus = rw (plus refl) refl
is_negative-form minus (suc size) plus = is_negative-signed minus (suc size) (omega arith)

-- what doesn't end with 0 isn't zero
pub nonzero : (size : ℕ) → (size % 10 ≡ 0 → ⊥) → 0 < size
nonzero zero last = absurd (last refl)
nonzero (suc size) last = omega arith

-- zeros

-- what is stripped of a number is the number's
pub stripped_whole : (more size : ℕ)
    → (stripped more size).0 * 10 ^ (stripped more size).1 ≡ size
unfolding stripped
stripped_whole zero size = omega arith
stripped_whole (suc more) size =
    ⊎_elim
    (λ nought.
    let rest : (stripped more (size / 10)).0 * 10 ^ (stripped more (size / 10)).1 ≡ size / 10 =
    stripped_whole more (size / 10) in
    let ten = tens (stripped more (size / 10)).0 (stripped more (size / 10)).1 in
    rw (stripped-nought more size nought, add-one) (omega arith))
    (λ last. rw (stripped-last more size last) (omega arith))
    (cases_eq (size % 10) 0)

-- where there may be as many zeros as there are digits, no zero is left
pub stripped_last : (more size : ℕ) → 0 < size → size < 10 ^ more
    → (stripped more size).0 % 10 ≡ 0 → ⊥
stripped_last zero size some few end = omega arith
stripped_last (suc more) size some few end =
    ⊎_elim
    (λ nought.
    let short : size / 10 < 10 ^ more = omega (arith, pow-suc 10 more) in
    let same = ap (λ p. p.0 % 10) (stripped-nought more size nought) in
    stripped_last more (size / 10) (omega arith) short (sym same ∙ end))
    (λ last. last (sym (ap (λ p. p.0 % 10) (stripped-last more size last)) ∙ end))
    (cases_eq (size % 10) 0)

-- nor where there may be more zeros than were found
pub stripped_end : (more size : ℕ) → (stripped more size).1 < more
    → (stripped more size).0 % 10 ≡ 0 → ⊥
stripped_end zero size short end = absurd (omega arith)
stripped_end (suc more) size short end =
    ⊎_elim
    (λ nought.
    let turn = stripped-nought more size nought in
    let rest : (stripped more (size / 10)).1 < more = omega (arith, ap (λ p. p.1) turn) in
    stripped_end more (size / 10) rest (sym (ap (λ p. p.0 % 10) turn) ∙ end))
    (λ last. last (sym (ap (λ p. p.0 % 10) (stripped-last more size last)) ∙ end))
    (cases_eq (size % 10) 0)

-- there are fewer zeros than digits
pub stripped_few : (more size digits : ℕ) → 0 < size → size < 10 ^ digits
    → (stripped more size).1 < digits
unfolding stripped
stripped_few zero size digits some few =
    ⊎_elim
    (λ none. absurd (omega (arith, ap (λ d. 10 ^ d) none)))
    (λ h. omega arith)
    (cases_eq digits 0)
stripped_few (suc more) size zero some few = absurd (omega arith)
stripped_few (suc more) size (suc digits) some few =
    ⊎_elim
    (λ (nought : size % 10 ≡ 0).
    let short : size / 10 < 10 ^ digits = omega (arith, pow-suc 10 digits) in
    let left : 0 < size / 10 = omega arith in
    let rest : (stripped more (size / 10)).1 < digits =
    stripped_few more (size / 10) digits left short in
    rw (stripped-nought more size nought) (omega arith))
    (λ last. rw (stripped-last more size last) (omega arith))
    (cases_eq (size % 10) 0)

-- normal forms

-- a number without its zeros, and how many they are
abbrev pub bare : ℤ → ℕ × ℕ
bare z = stripped 2001 (unsigned_abs z)

pub form_of-bare : (z : ℤ) → 0 < unsigned_abs z
    → form_of z ≡ record { negative = is_negative z; size = (bare z).0; shift = (bare z).1 }
form_of-bare z some = form_of-other z (is_negative z) (bare z).0 (bare z).1 some refl refl

-- each number is that of its form
pub number-form_of : (z : ℤ) → number (form_of z).negative (form_of z).size (form_of z).shift ≡ z
number-form_of z =
    ⊎_elim
    (λ none.
    let zero_is : pos 0 ≡ z =
    sym (signed-zero (is_negative z)) ∙ ap (signed (is_negative z)) (sym none) ∙ signed-parts z in
    rw (form_of-zero z none) zero_is)
    (λ h.
    let whole : (bare z).0 * 10 ^ (bare z).1 ≡ unsigned_abs z =
    stripped_whole 2001 (unsigned_abs z) in
    rw (form_of-bare z (omega arith), whole) (signed-parts z))
    (cases_eq (unsigned_abs z) 0)

-- a shift that no form has
pub form_of-far : (minus : Bool) (size shift : ℕ) → (size % 10 ≡ 0 → ⊥) → 2001 ≤ shift
    → (form_of (number minus size shift)).shift ≡ 2001
form_of-far minus size shift last far =
    let z = number minus size shift in
    let whole : unsigned_abs z ≡ size * 10 ^ shift =
    unsigned_abs-signed minus (size * 10 ^ shift) in
    let big : 0 < size * 10 ^ shift = one-le-mul {a = size} (nonzero size last) (ten_pos shift) in
    let noughts : (bare z).1 ≡ 2001 = rw whole (stripped_far 2001 size shift far) in
    rw (form_of-bare z (omega arith)) noughts

-- numbers at other exponents

signed_times : (minus : Bool) (size by : ℕ)
    → signed minus size *ℤ pos by ≡ signed minus (size * by)
signed_times false size by = refl
signed_times true zero by = let none : 0 * by ≡ 0 = omega arith in rw none refl
signed_times true (suc size) by = refl

signed_divided : (minus : Bool) (size by : ℕ)
    → int_div (signed minus size) (pos by) ≡ signed minus (size / by)
signed_divided false size by = refl
signed_divided true zero by = rw (zero-div by) refl
signed_divided true (suc size) by = refl

signed_left : (minus : Bool) (size by : ℕ)
    → int_rem (signed minus size) (pos by) ≡ signed minus (size % by)
signed_left false size by = refl
signed_left true zero by = rw (zero-mod by) refl
signed_left true (suc size) by = refl

-- `m * 10^e` for an e of -1000 or more
pub scaled-up : (minus : Bool) (size shift : ℕ) (e : ℤ) → e +ℤ pos 1000 ≡ pos shift
    → scaled (signed minus size) e ≡ Some (number minus size shift)
scaled-up minus size shift e is =
    let yes : int_le (pos 0) (e +ℤ pos 1000) ≡ true = rw is (grind (arith, nat_tests)) in
    rw (yes, is) (ap Some (signed_times minus size (10 ^ shift)))

-- and below that: none, where the zeros don't suffice
pub scaled-down : (minus : Bool) (size down : ℕ) (e : ℤ) → e +ℤ pos 1000 ≡ negsuc down
    → scaled (signed minus size) e
    ≡ (if size % 10 ^ suc down == 0 then Some (signed minus (size / 10 ^ suc down)) else None)
scaled-down minus size down e is =
    let by = 10 ^ suc down in
    let no : int_le (pos 0) (e +ℤ pos 1000) ≡ false = rw is refl in
    let rest = int_eq-signed minus (size % by) in
    rw (no, is, signed_left minus size by, rest, signed_divided minus size by) refl
