-- Sizes with zeros after them.
use Rattle.std.proofs.Common.{◌≡◌, ℕ, zero, suc, Bool, true, List, [], ◌∷◌, length, get_or, ◌==◌, ◌&&◌, ◌+◌, ◌*◌, ◌/◌, ◌%◌, ◌^◌, ◌<◌, ◌≤◌, refl, ap, sym, ◌∙◌, ⊎_elim, arith, add-one}
use Rattle.std.proofs.Math.Nat.{pow-suc, pow-le-pow_right, mul-le-mul_right, mul_comm, mul_assoc}
use Rattle.std.proofs.lemmas.Bool.{cases_lt, and_parts}
use Rattle.std.proofs.lemmas.Bool.Decides.{nat_tests}
use Rattle.vm_base.specs.Form.{tens}

-- one zero goes from the size to the zeros
pub one_nought_off : (whole size noughts : ℕ) → whole ≡ size * 10 ^ noughts → size % 10 ≡ 0
    → whole ≡ size / 10 * 10 ^ (noughts + 1)
one_nought_off whole size noughts is last =
    let ten : size ≡ 10 * (size / 10) = omega arith in
    let moved : size * 10 ^ noughts ≡ 10 * (size / 10) * 10 ^ noughts =
    ap (λ n. n * 10 ^ noughts) ten in
    rw add-one (omega (arith, moved, tens (size / 10) noughts))

-- as many zeros or more make a size as great or greater
pub more_noughts : (size few noughts : ℕ) → 0 < size → few ≤ noughts
    → 10 ^ few ≤ size * 10 ^ noughts
more_noughts size few noughts some more =
    let powers : 10 ^ few ≤ 10 ^ noughts = pow-le-pow_right {n = 10} (omega arith) more in
    let sizes : 1 * 10 ^ noughts ≤ size * 10 ^ noughts =
    mul-le-mul_right {m = 1} {n = size} (10 ^ noughts) (omega arith) in
    omega arith

-- a size of 128 bits has fewer than 39 zeros at its end
pub few_noughts : (whole size noughts : ℕ) → whole ≡ size * 10 ^ noughts → 0 < size
    → whole < 2 ^ 128 → noughts < 39
few_noughts whole size noughts is some fits =
    ⊎_elim
    (λ few. few)
    (λ many. absurd (omega (arith, more_noughts size 39 noughts some many)))
    (cases_lt noughts 39)

-- a factor goes from the size to the count of them
pub factor_off : (b whole size count : ℕ) → whole ≡ size * b ^ count → size ≡ size / b * b
    → whole ≡ size / b * b ^ (count + 1)
factor_off b whole size count is exact =
    let power : b * b ^ count ≡ b ^ suc count = mul_comm b (b ^ count) ∙ sym (pow-suc b count) in
    rw add-one
    (is ∙ ap (λ n. n * b ^ count) exact ∙ mul_assoc (size / b) b (b ^ count)
    ∙ ap (λ n. size / b * n) power)

-- a size of 128 bits has fewer than 128 twos
pub few_twos : (whole size twos : ℕ) → whole ≡ size * 2 ^ twos → 0 < size → whole < 2 ^ 128
    → twos < 128
few_twos whole size twos is some fits =
    ⊎_elim
    (λ few. few)
    (λ many.
    let powers : 2 ^ 128 ≤ 2 ^ twos = pow-le-pow_right {n = 2} (omega arith) many in
    let sizes : 1 * 2 ^ twos ≤ size * 2 ^ twos =
    mul-le-mul_right {m = 1} {n = size} (2 ^ twos) (omega arith) in
    absurd (omega arith))
    (cases_lt twos 128)

-- a list of which each number is ten times the one before
abbrev rise_by_ten : ℕ → List ℕ → Bool
rise_by_ten n [] = true
rise_by_ten n (x ∷ xs) = (x == n) && rise_by_ten (n * 10) xs

same_number : (x n : ℕ) → (x == n) ≡ true → x ≡ n
same_number x n is = grind (arith, nat_tests)

power_at : (n k : ℕ) (xs : List ℕ) → rise_by_ten n xs ≡ true → k < length xs
    → get_or xs k 0 ≡ n * 10 ^ k
power_at n k [] is here = absurd (omega arith)
power_at n zero (x ∷ xs) is here =
    let same = same_number x n (and_parts (x == n) (rise_by_ten (n * 10) xs) is).0 in
    omega arith
power_at n (suc k) (x ∷ xs) is here =
    let rest =
    power_at (n * 10) k xs (and_parts (x == n) (rise_by_ten (n * 10) xs) is).1 (omega arith) in
    rest ∙ omega (arith, ap (λ p. n * p) (pow-suc 10 k))

abbrev powers : List ℕ
powers =
    1 ∷ 10 ∷ 100 ∷ 1000 ∷ 10000 ∷ 100000 ∷ 1000000 ∷ 10000000 ∷ 100000000 ∷ 1000000000 ∷ 10000000000
    ∷
    100000000000 ∷ 1000000000000 ∷ 10000000000000 ∷ 100000000000000 ∷ 1000000000000000 ∷
    10000000000000000 ∷ 100000000000000000 ∷ 1000000000000000000 ∷ 10000000000000000000 ∷ []

pub first_powers : (k : ℕ) → k ≤ 19 → get_or powers k 0 ≡ 10 ^ k
first_powers k within = power_at 1 k powers refl (omega arith) ∙ omega arith
