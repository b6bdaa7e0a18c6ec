-- The normal form of a number is found from the number.
use Rattle.std.specs.Prelude.{◌≡◌, ℕ, zero, suc, ◌+◌, ◌*◌, ◌/◌, ◌%◌, ◌^◌, ◌<◌, ◌≤◌, ◌==◌, ℤ, unsigned_abs, Bool, true, false}
use Rattle.std.specs.Int.{is_negative}
use Rattle.std.proofs.Common.{refl, ap, sym, ◌∙◌, arith}
use Rattle.std.proofs.Math.Nat.{pow-suc, one-le-pow, one-le-mul}
use Rattle.std.proofs.lemmas.Bool.Decides.{nat_tests}
use Rattle.vm_base.specs.Number.{signed, number, stripped, form_of}
use Rattle.vm_base.specs.Sample.{IsSampleForm}

-- a power of ten isn't zero
pub ten_pos : (k : ℕ) → 0 < 10 ^ k
ten_pos k = omega (arith, one-le-pow k 10 (omega arith))

-- one zero more
pub tens : (a k : ℕ) → a * 10 ^ suc k ≡ 10 * (a * 10 ^ k)
tens a k = omega (arith, ap (λ n. a * n) (pow-suc 10 k))

-- what stripping gives of a number that ends with another digit than 0, and of one that ends with 0
pub stripped-last : (more n : ℕ) → (n % 10 ≡ 0 → ⊥) → stripped (suc more) n ≡ (n, 0)
unfolding stripped
stripped-last more n last = grind (arith, nat_tests)

pub stripped-nought : (more n : ℕ) → n % 10 ≡ 0
    → stripped (suc more) n ≡ ((stripped more (n / 10)).0, (stripped more (n / 10)).1 + 1)
unfolding stripped
stripped-nought more n nought =
    let yes : (n % 10 == 0) ≡ true = grind (arith, nat_tests) in
    rw yes refl

stripped-ten : (more n : ℕ)
    → stripped (suc more) (10 * n) ≡ ((stripped more n).0, (stripped more n).1 + 1)
stripped-ten more n =
    let rest : 10 * n / 10 ≡ n = omega arith in
    rw (stripped-nought more (10 * n) (omega arith), rest) refl

-- stripping takes off the zeros after a number that doesn't end with 0
pub stripped_is : (more a k : ℕ) → (a % 10 ≡ 0 → ⊥) → k ≤ more → stripped more (a * 10 ^ k) ≡ (a, k)
unfolding stripped
stripped_is zero a zero last few = ap (λ n. (n, 0)) (omega arith)
stripped_is zero a (suc k) last few = absurd (omega arith)
stripped_is (suc more) a zero last few =
    let same : a * 10 ^ 0 ≡ a = omega arith in
    let end : a * 10 ^ 0 % 10 ≡ 0 → ⊥ = λ h. last (ap (λ n. n % 10) (sym same) ∙ h) in
    stripped-last more (a * 10 ^ 0) end ∙ ap (λ n. (n, 0)) same
stripped_is (suc more) a (suc k) last few =
    let rest : stripped more (a * 10 ^ k) ≡ (a, k) = stripped_is more a k last (omega arith) in
    rw (tens a k, stripped-ten more (a * 10 ^ k), rest) (ap (λ n. (a, n)) (omega arith))

-- stripping takes off no more zeros than it may
pub stripped_far : (more a k : ℕ) → more ≤ k → (stripped more (a * 10 ^ k)).1 ≡ more
unfolding stripped
stripped_far zero a k far = refl
stripped_far (suc more) a zero far = absurd (omega arith)
stripped_far (suc more) a (suc k) far =
    let rest : (stripped more (a * 10 ^ k)).1 ≡ more = stripped_far more a k (omega arith) in
    rw (tens a k, stripped-ten more (a * 10 ^ k), rest) (omega arith)

-- the size of a number, and its sign where it isn't zero
pub unsigned_abs-signed : (minus : Bool) (size : ℕ) → unsigned_abs (signed minus size) ≡ size
unsigned_abs-signed false size = refl
unsigned_abs-signed true zero = refl
unsigned_abs-signed true (suc size) = refl

pub is_negative-signed : (minus : Bool) (size : ℕ) → 0 < size
    → is_negative (signed minus size) ≡ minus
is_negative-signed false size some = grind (arith, nat_tests)
is_negative-signed true zero some = absurd (omega arith)
is_negative-signed true (suc size) some = refl

-- the form of zero, and of another number
pub form_of-zero : (z : ℤ) → unsigned_abs z ≡ 0
    → form_of z ≡ record { negative = false; size = 0; shift = 1000 }
unfolding form_of
form_of-zero z none = rw none refl

pub form_of-other : (z : ℤ) (minus : Bool) (size shift : ℕ)
    → 0 < unsigned_abs z → is_negative z ≡ minus → stripped 2001 (unsigned_abs z) ≡ (size, shift)
    → form_of z ≡ record { negative = minus; size = size; shift = shift }
unfolding form_of
form_of-other z minus size shift some sign form =
    let no : (unsigned_abs z == 0) ≡ false = grind (arith, nat_tests) in
    rw (no, sign, form) refl

-- a number in normal form is its own form
pub form_of-number : (minus : Bool) (size shift : ℕ)
    → (size % 10 ≡ 0 → size ≡ 0) → (size ≡ 0 → minus ≡ false) → (size ≡ 0 → shift ≡ 1000)
    → shift ≤ 2000
    → form_of (number minus size shift) ≡ record { negative = minus; size = size; shift = shift }
form_of-number minus zero shift short plus here near =
    form_of-zero (number minus 0 shift) (unsigned_abs-signed minus (0 * 10 ^ shift) ∙ omega arith)
    ∙ rw (plus refl, here refl) refl
form_of-number minus (suc size) shift short plus here near =
    let whole = suc size * 10 ^ shift in
    let some : 0 < whole = one-le-mul {a = suc size} (omega arith) (ten_pos shift) in
    let abs = unsigned_abs-signed minus whole in
    let form : stripped 2001 whole ≡ (suc size, shift) =
    stripped_is 2001 (suc size) shift (λ h. cc (short h)) (omega arith) in
    form_of-other (number minus (suc size) shift) minus (suc size) shift (omega arith)
    (is_negative-signed minus whole some) (ap (λ n. stripped 2001 n) abs ∙ form)

-- the same of a form within the limits of a sample's
pub form_of-sample : (minus : Bool) (size shift : ℕ) → IsSampleForm minus size shift
    → form_of (number minus size shift) ≡ record { negative = minus; size = size; shift = shift }
form_of-sample minus size shift is =
    form_of-number minus size shift is.short is.plus is.here (omega (arith, is.high))
