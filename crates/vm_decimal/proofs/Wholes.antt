-- Whole numbers beside a number.
use Rattle.std.proofs.Common.{◌≡◌, ℕ, zero, suc, ◌+◌, ◌-◌, ◌*◌, ◌/◌, ◌%◌, ◌^◌, ◌<◌, ◌≤◌, ◌==◌, ◌&&◌, ℤ, pos, neg_ℤ, ◌-ℤ◌, Bool, true, false, not, if◌then◌else◌, refl, ap, ap₂, sym, ◌∙◌, ⊎_elim, arith, pow-add}
use Rattle.std.proofs.Math.Nat.{zero-mod, mul-mod_left, mul-div-mul_right, mod-eq_of_lt, div-eq_of_lt, one-le-mul, pow-le-pow_right}
use Rattle.std.proofs.lemmas.Bool.{cases_eq}
use Rattle.std.proofs.lemmas.Bool.Decides.{nat_tests}
use Rattle.std.proofs.lemmas.Int.{ints, int_rem_euclid_is}
use Rattle.std.proofs.lemmas.Nat.{div-add-mod'}
use Rattle.std.specs.Int.{int_rem_euclid}
use Rattle.vm_base.specs.Form.{ten_pos}
use Rattle.vm_base.specs.Number.{signed, number}
use Rattle.vm_decimal.specs.Arithmetic.{ones, floor_of, ceil_of}
use Rattle.vm_decimal.specs.inner.Division.{cut}
use Rattle.vm_decimal.proofs.Decs.{noughts_add}
use Rattle.vm_decimal.proofs.Divisions.{mod_times}

pub ones_is : (k : ℕ) → k ≡ 1000 → ones ≡ 10 ^ k
unfolding ones
ones_is k is = ap (λ n. 10 ^ n) (sym is)

ones_pos : 0 < ones
ones_pos = let h = ones_is 1000 refl in rw h (ten_pos 1000)

-- what is cut

pub cut-exact : (away : Bool) (n d : ℕ) → n % d ≡ 0 → cut away n d ≡ n / d
cut-exact away n d none =
    let yes : (n % d == 0) ≡ true = grind (arith, nat_tests) in
    rw yes (at away)
  where
    at : (away : Bool) → (if away && not true then n / d + 1 else n / d) ≡ n / d
    at true = refl
    at false = refl

pub cut-up : (n d : ℕ) → (n % d ≡ 0 → ⊥) → cut true n d ≡ n / d + 1
cut-up n d some =
    let no : (n % d == 0) ≡ false = grind (arith, nat_tests) in
    rw no refl

none_times : (k t : ℕ) → 0 < t → (k * t == 0) ≡ (k == 0)
none_times zero t some = let none : 0 * t ≡ 0 = omega arith in rw none refl
none_times (suc k) t some =
    let more : 0 < suc k * t = one-le-mul {a = suc k} (omega arith) some in
    grind (arith, nat_tests)

pub cut_times : (away : Bool) (n d t : ℕ) → 0 < t → cut away (n * t) (d * t) ≡ cut away n d
cut_times away n d t some =
    rw (mul-div-mul_right n d some, mod_times n d t some, none_times (n % d) t some) refl

-- the whole number not above another

below_zero : (n : ℕ) → neg_ℤ (pos n) -ℤ int_rem_euclid (neg_ℤ (pos n)) (pos ones)
    ≡ neg_ℤ (pos (cut true n ones * ones))
below_zero n =
    let parts : n / ones * ones + n % ones ≡ n = div-add-mod' n ones in
    let rest : n % ones < ones = omega (arith, ones_pos) in
    ⊎_elim
    (λ (none : n % ones ≡ 0).
    let whole : cut true n ones * ones ≡ n / ones * ones =
    ap (λ k. k * ones) (cut-exact true n ones none) in
    let left =
    int_rem_euclid_is (neg_ℤ (pos n)) (pos ones) ones (n / ones) 0 ones_pos refl
    (omega (arith, ints)) in
    let nought = zero-mod ones in
    omega (arith, ints, left, nought, whole))
    (λ (some : n % ones ≡ 0 → ⊥).
    let m : ℕ = ones - n % ones in
    let whole : cut true n ones * ones ≡ n / ones * ones + ones =
    ap (λ k. k * ones) (cut-up n ones some) ∙ omega arith in
    let up : (n / ones + 1) * ones ≡ n / ones * ones + ones = omega arith in
    let left = int_rem_euclid_is (neg_ℤ (pos n)) (pos ones) ones (n / ones + 1) m ones_pos refl
    (omega (arith, ints)) in
    let small : m % ones ≡ m = mod-eq_of_lt {n = m} {m = ones} (omega arith) in
    omega (arith, ints, left, small, whole))
    (cases_eq (n % ones) 0)

pub floor_signed : (a : Bool) (n : ℕ) → floor_of (signed a n) ≡ signed a (cut a n ones * ones)
unfolding floor_of
floor_signed false n =
    let parts : n / ones * ones + n % ones ≡ n = div-add-mod' n ones in
    omega (arith, ints)
floor_signed true n = below_zero n

opposite : (a : Bool) (n : ℕ) → neg_ℤ (signed a n) ≡ signed (not a) n
opposite false n = refl
opposite true zero = refl
opposite true (suc n) = refl

pub ceil_signed : (a : Bool) (n : ℕ) → ceil_of (signed a n) ≡ signed a (cut (not a) n ones * ones)
unfolding ceil_of
ceil_signed a n =
    ap (λ z. neg_ℤ (floor_of z)) (opposite a n) ∙ ap neg_ℤ (floor_signed (not a) n)
    ∙ opposite (not a) (cut (not a) n ones * ones)
    ∙ ap (λ s. signed s (cut (not a) n ones * ones)) (twice a)
  where
    twice : (a : Bool) → not (not a) ≡ a
    twice true = refl
    twice false = refl

-- numbers

-- a number without digits after the point
whole_times : (away : Bool) (x i : ℕ) → 1000 ≤ i → cut away (x * 10 ^ i) ones * ones ≡ x * 10 ^ i
whole_times away x i high =
    let k : ℕ = i - 1000 in
    let n = x * 10 ^ i in
    let split : i ≡ k + 1000 = omega arith in
    let parts : x * 10 ^ i ≡ x * 10 ^ k * ones =
    ap (λ j. x * 10 ^ j) split ∙ sym (noughts_add x k 1000)
    ∙ ap (λ t. x * 10 ^ k * t) (sym (ones_is 1000 refl)) in
    let none : x * 10 ^ i % ones ≡ 0 = ap (λ m. m % ones) parts ∙ mul-mod_left (x * 10 ^ k) ones in
    let back : x * 10 ^ i / ones * ones + x * 10 ^ i % ones ≡ x * 10 ^ i = div-add-mod' n ones in
    ap (λ q. q * ones) (cut-exact away n ones none) ∙ omega arith

pub floor_whole : (a : Bool) (x i : ℕ) (z : ℤ) → number a x i ≡ z → 1000 ≤ i → z ≡ floor_of z
floor_whole a x i z is high =
    sym is ∙ ap (signed a) (sym (whole_times a x i high)) ∙ sym (floor_signed a (x * 10 ^ i))
    ∙ ap floor_of is

pub ceil_whole : (a : Bool) (x i : ℕ) (z : ℤ) → number a x i ≡ z → 1000 ≤ i → z ≡ ceil_of z
ceil_whole a x i z is high =
    sym is ∙ ap (signed a) (sym (whole_times (not a) x i high)) ∙ sym (ceil_signed a (x * 10 ^ i))
    ∙ ap ceil_of is

-- what is cut of the size is cut of the number
pub cut_places : (away : Bool) (x i places q : ℕ) → places ≡ 1000 - i → i < 1000
    → q ≡ cut away x (10 ^ places) → q ≡ cut away (x * 10 ^ i) ones
cut_places away x i places q split low found =
    let all : ones ≡ 10 ^ places * 10 ^ i = ones_is (places + i) (omega arith)
    ∙ pow-add 10 places i in
    found ∙ sym
    (ap (cut away (x * 10 ^ i)) all ∙ cut_times away x (10 ^ places) (10 ^ i) (ten_pos i))

-- a whole number by its size without zeros
pub whole_shift : (a : Bool) (size bare noughts shift : ℕ) → size ≡ bare * 10 ^ noughts
    → shift ≡ 1000 + noughts
    → number a bare shift ≡ signed a (size * ones)
whole_shift a size bare noughts shift whole is =
    ap (signed a)
    (ap (λ k. bare * 10 ^ k) (is ∙ omega arith) ∙ sym (noughts_add bare noughts 1000)
    ∙ ap₂ (λ m n. m * n) (sym whole) (sym (ones_is 1000 refl)))

-- few digits, of which more are cut off
pub far_cut : (size places : ℕ) → size < 10 ^ 38 → 38 < places
    → (size / 10 ^ places ≡ 0) × (size % 10 ^ places ≡ size)
far_cut size places few far =
    let more : 38 ≤ places = omega arith in
    let powers : 10 ^ 38 ≤ 10 ^ places = pow-le-pow_right {n = 10} (omega arith) more in (
      div-eq_of_lt {n = size} {m = 10 ^ places} (omega arith),
      mod-eq_of_lt {n = size} {m = 10 ^ places} (omega arith),
    )
