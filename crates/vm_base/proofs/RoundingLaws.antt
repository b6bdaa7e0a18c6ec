-- Rounded quotients, for the proofs of those who use them.
use Rattle.std.proofs.Common.{◌≡◌, ℕ, suc, ◌+◌, ◌*◌, ◌/◌, ◌%◌, ◌<◌, ◌≤◌, ◌==◌, ◌&&◌, ◌||◌, nat_lt, true, false, ap, ◌∙◌, ⊎_elim, arith, div-add-mod'}
use Rattle.std.proofs.Math.Nat.{suc-mul, mul-le-mul_right}
use Rattle.std.proofs.lemmas.Bool.{cases_lt, cases_order, cases_eq}
use Rattle.std.proofs.lemmas.Bool.Decides.{nat_tests}
use Rattle.vm_base.specs.Rounding.{nearest}

-- q is as near to n / d as a whole number can be, and even where another is as near
pub record IsNearest (n d q : ℕ) : Type 0 where
  pub above : 2 * n ≤ 2 * (q * d) + d
  pub below : 2 * (q * d) ≤ 2 * n + d
  pub tie_above : 2 * n ≡ 2 * (q * d) + d → q % 2 ≡ 0
  pub tie_below : 2 * (q * d) ≡ 2 * n + d → q % 2 ≡ 0

-- the whole quotient where what is left of it is below the half, or is the half and it is even
pub IsNearest-whole : (n d whole rest : ℕ) → whole * d + rest ≡ n → 2 * rest ≤ d
    → (2 * rest ≡ d → whole % 2 ≡ 0) → IsNearest n d whole
IsNearest-whole n d whole rest parts less even = record {
  above = omega arith;
  below = omega arith;
  tie_above = λ tie. even (omega arith);
  tie_below = λ tie.
      let none : rest ≡ 0 = omega arith in
      even (omega arith);
}

-- else the next number
pub IsNearest-next : (n d whole rest : ℕ) → whole * d + rest ≡ n → rest < d → d ≤ 2 * rest
    → (2 * rest ≡ d → whole % 2 ≡ 0 → ⊥) → IsNearest n d (whole + 1)
IsNearest-next n d whole rest parts left more odd =
    let next : (whole + 1) * d ≡ whole * d + d = omega arith in
    record {
      above = omega arith;
      below = omega arith;
      tie_above = λ tie. absurd (omega arith);
      tie_below = λ tie.
          ⊎_elim
          (λ even. absurd (odd (omega arith) even))
          (λ is_odd. omega arith)
          (cases_eq (whole % 2) 0);
    }

-- `nearest` is the nearest number
pub nearest-IsNearest : (n d : ℕ) → 0 < d → IsNearest n d (nearest n d)
nearest-IsNearest n d some =
    let parts : n / d * d + n % d ≡ n = div-add-mod' n d in
    let left : n % d < d = omega arith in
    ⊎_elim
    (λ (half : 2 * (n % d) ≡ d).
    ⊎_elim
    (λ (even : n / d % 2 ≡ 0).
    let yes : (nat_lt (2 * (n % d)) d || (2 * (n % d) == d && n / d % 2 == 0)) ≡ true =
    grind (arith, nat_tests) in
    rw yes (IsNearest-whole n d (n / d) (n % d) parts (omega arith) (λ _. even)))
    (λ (odd : n / d % 2 ≡ 0 → ⊥).
    let no : (nat_lt (2 * (n % d)) d || (2 * (n % d) == d && n / d % 2 == 0)) ≡ false =
    grind (arith, nat_tests) in
    rw no (IsNearest-next n d (n / d) (n % d) parts left (omega arith) (λ _ even. odd even)))
    (cases_eq (n / d % 2) 0))
    (⊎_elim
    (λ (less : 2 * (n % d) < d).
    let yes : (nat_lt (2 * (n % d)) d || (2 * (n % d) == d && n / d % 2 == 0)) ≡ true =
    grind (arith, nat_tests) in
    rw yes (IsNearest-whole n d (n / d) (n % d) parts (omega arith) (λ tie. absurd (omega arith))))
    (λ (more : d < 2 * (n % d)).
    let no : (nat_lt (2 * (n % d)) d || (2 * (n % d) == d && n / d % 2 == 0)) ≡ false =
    grind (arith, nat_tests) in
    rw no (IsNearest-next n d (n / d) (n % d) parts left (omega arith)
    (λ tie. absurd (omega arith)))))
    (cases_order (2 * (n % d)) d)

-- of two different numbers only one is so near, since where both are near, one is odd
none_above : (n d q p : ℕ) → 0 < d → IsNearest n d q → IsNearest n d p → q < p → ⊥
none_above n d q p some first second less =
    let one : suc q * d ≡ q * d + d = suc-mul q d in
    let two : suc (suc q) * d ≡ suc q * d + d = suc-mul (suc q) d in
    let up = first.above in
    let to = second.below in
    ⊎_elim
    (λ (far : suc q < p).
    let steps : suc (suc q) * d ≤ p * d = mul-le-mul_right {m = suc (suc q)} {n = p} d far in
    omega arith)
    (λ near.
    let next : p ≡ suc q = omega arith in
    let step : p * d ≡ q * d + d = ap (λ k. k * d) next ∙ one in
    let even : q % 2 ≡ 0 = first.tie_above (omega arith) in
    let even_too : p % 2 ≡ 0 = second.tie_below (omega arith) in
    omega arith)
    (cases_lt (suc q) p)

pub IsNearest-one : (n d q p : ℕ) → 0 < d → IsNearest n d q → IsNearest n d p → q ≡ p
IsNearest-one n d q p some first second =
    ⊎_elim
    (λ same. same)
    (⊎_elim
    (λ less. absurd (none_above n d q p some first second less))
    (λ more. absurd (none_above n d p q some second first more)))
    (cases_order q p)
