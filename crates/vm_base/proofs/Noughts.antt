-- Sizes with zeros after them.
use Rattle.std.proofs.Common.{◌≡◌, ℕ, ◌+◌, ◌-◌, ◌*◌, ◌/◌, ◌%◌, ◌^◌, ◌<◌, ◌≤◌, ap, sym, ◌∙◌, ⊎_elim, arith, add-one, pow-add, Greater}
use Rattle.std.proofs.Math.Nat.{pow-le-pow_right, mul-le-mul_right, mul-lt-mul_of_pos_right, mul_assoc}
use Rattle.std.proofs.lemmas.Bool.{cases_lt, cases_order}
use Rattle.std.proofs.lemmas.Bool.Decides.{nat_tests}
use Rattle.std.specs.Ordering.{nat_cmp}
use Rattle.vm_base.specs.Form.{ten_pos, tens}

-- one zero goes from the size to the zeros
pub one_nought_off : (whole size noughts : ℕ) → whole ≡ size * 10 ^ noughts → size % 10 ≡ 0
    → whole ≡ size / 10 * 10 ^ (noughts + 1)
one_nought_off whole size noughts is last =
    let ten : size ≡ 10 * (size / 10) = omega arith in
    let moved : size * 10 ^ noughts ≡ 10 * (size / 10) * 10 ^ noughts =
    ap (λ n. n * 10 ^ noughts) ten in
    rw add-one (omega (arith, moved, tens (size / 10) noughts))

-- as many zeros or more make a size as great or greater
more_noughts : (size few noughts : ℕ) → 0 < size → few ≤ noughts
    → 1 * 10 ^ few ≤ size * 10 ^ noughts
more_noughts size few noughts some more =
    let powers : 10 ^ few ≤ 10 ^ noughts = pow-le-pow_right {n = 10} (omega arith) more in
    let sizes : 1 * 10 ^ noughts ≤ size * 10 ^ noughts =
    mul-le-mul_right {m = 1} {n = size} (10 ^ noughts) (omega arith) in
    omega arith

-- a size of 64 bits has fewer than 20 zeros at its end
pub few_noughts : (size noughts : ℕ) → 0 < size → size * 10 ^ noughts < 2 ^ 64 → noughts < 20
few_noughts size noughts some fits =
    ⊎_elim
    (λ few. few)
    (λ many. absurd (omega (arith, more_noughts size 20 noughts some many)))
    (cases_lt noughts 20)

-- with 18 zeros or more after it, a size is above each one of at most 18 digits
pub far_above : (size gap other : ℕ) → 0 < size → 18 ≤ gap → other < 10 ^ 18
    → Greater ≡ nat_cmp (size * 10 ^ gap) other
far_above size gap other some far few =
    let above : other < size * 10 ^ gap = omega (arith, more_noughts size 18 gap some far) in
    grind (arith, nat_tests)

-- a factor of both sides counts for nothing
same_factor : (one two by : ℕ) → 0 < by → nat_cmp (one * by) (two * by) ≡ nat_cmp one two
same_factor one two by some =
    ⊎_elim
    (λ h. rw h (grind (arith, nat_tests)))
    (⊎_elim
    (λ h.
    let less : one * by < two * by = mul-lt-mul_of_pos_right h some in
    grind (arith, nat_tests))
    (λ h.
    let greater : two * by < one * by = mul-lt-mul_of_pos_right h some in
    grind (arith, nat_tests)))
    (cases_order one two)

pub same_shift : (one two shift other : ℕ) → shift ≡ other
    → nat_cmp one two ≡ nat_cmp (one * 10 ^ shift) (two * 10 ^ other)
same_shift one two shift other is =
    rw (← is) (sym (same_factor one two (10 ^ shift) (ten_pos shift)))

pub higher_shift : (one two high low : ℕ) → low ≤ high
    → nat_cmp (one * 10 ^ (high - low)) two ≡ nat_cmp (one * 10 ^ high) (two * 10 ^ low)
higher_shift one two high low over =
    let raised = one * 10 ^ (high - low) in
    let shifts : 10 ^ (high - low) * 10 ^ low ≡ 10 ^ high =
    sym (pow-add 10 (high - low) low) ∙ ap (λ n. 10 ^ n) (omega arith) in
    let whole : raised * 10 ^ low ≡ one * 10 ^ high =
    mul_assoc one (10 ^ (high - low)) (10 ^ low) ∙ ap (λ n. one * n) shifts in
    sym (same_factor raised two (10 ^ low) (ten_pos low))
    ∙ ap (λ n. nat_cmp n (two * 10 ^ low)) whole
