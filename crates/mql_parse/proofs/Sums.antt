-- Sums that stand still from 2^48 on.
use Rattle.std.specs.Prelude.{◌≡◌, ℕ, zero, suc, ◌+◌, ◌-◌, ◌*◌, ◌^◌, ◌≤◌, min, Bool, true, false, List, [], ◌∷◌, if◌then◌else◌}
use Rattle.std.specs.Char.{is_ascii_digit}
use Rattle.std.proofs.Common.{refl, ap, sym, ◌∙◌, arith, ⊎_elim}
use Rattle.std.proofs.Math.Nat.{mul-le-mul_right}
use Rattle.std.proofs.lemmas.Bool.{cases_lt}
use Rattle.mql_parse.specs.Values.{Length, AsFar, length_behind, unit_at, plus, times}

-- a greater count for a count that stands still
less_count : (c u r : ℕ) → AsFar (min c (2 ^ 48) * u + r) (c * u + r)
less_count c zero r = ap (λ n. min n (2 ^ 48)) (omega arith)
less_count c (suc u) r =
    ⊎_elim
    (λ below. let same : min c (2 ^ 48)
    ≡ c = omega arith in ap (λ n. min (n * suc u + r) (2 ^ 48)) same)
    (λ above.
    let far : min c (2 ^ 48) ≡ 2 ^ 48 = omega arith in
    let more : 2 ^ 48 * suc u ≤ c * suc u = mul-le-mul_right {m = 2 ^ 48} {n = c} (suc u) above in
    let first : min (2 ^ 48 * suc u + r) (2 ^ 48) ≡ 2 ^ 48 = omega arith in
    let second : min (c * suc u + r) (2 ^ 48) ≡ 2 ^ 48 = omega arith in
    ap (λ n. min (n * suc u + r) (2 ^ 48)) far ∙ first ∙ sym second)
    (cases_lt c (2 ^ 48))

module _ (of : Length → ℕ) (of_plus : (l k : Length) → of (plus l k) ≡ of l + of k)
    (of_times : (c : ℕ) (l : Length) → of (times c l) ≡ c * of l) where
  -- so is the sum after it
  far_count : (c : ℕ) (text : List ℕ)
      → AsFar (of (length_behind (min c (2 ^ 48)) text)) (of (length_behind c text))
  far_count c [] = refl
  far_count c (byte ∷ more) =
      go (is_ascii_digit byte) (far_count (min c (2 ^ 48) * 10 + (byte - 48)) more)
      (far_count (c * 10 + (byte - 48)) more)
    where
      same : min (min c (2 ^ 48) * 10 + (byte - 48)) (2 ^ 48) ≡ min (c * 10 + (byte - 48)) (2 ^ 48)
      same = less_count c 10 ((byte - 48))

      counted : (d : ℕ)
          → of (plus (times d (unit_at byte more)) (length_behind 0 more)) ≡ d
          * of (unit_at byte more) + of (length_behind 0 more)
      counted d = of_plus (times d (unit_at byte more)) (length_behind 0 more)
          ∙ ap (λ n. n + of (length_behind 0 more)) (of_times d (unit_at byte more))

      go : (digit : Bool)
          → AsFar (of (length_behind (min (min c (2 ^ 48) * 10 + (byte - 48)) (2 ^ 48)) more))
          (of (length_behind (min c (2 ^ 48) * 10 + (byte - 48)) more))
          → AsFar (of (length_behind (min (c * 10 + (byte - 48)) (2 ^ 48)) more))
          (of (length_behind (c * 10 + (byte - 48)) more))
          → AsFar (of (if digit then length_behind (min c (2 ^ 48) * 10 + (byte - 48)) more
          else plus (times (min c (2 ^ 48)) (unit_at byte more)) (length_behind 0 more)))
          (of (if digit then length_behind (c * 10 + (byte - 48)) more
          else plus (times c (unit_at byte more)) (length_behind 0 more)))
      go true one other = sym one ∙ ap (λ n. min (of (length_behind n more)) (2 ^ 48)) same ∙ other
      go false one other =
          ap (λ n. min n (2 ^ 48)) (counted (min c (2 ^ 48)))
          ∙ less_count c (of (unit_at byte more)) (of (length_behind 0 more))
          ∙ ap (λ n. min n (2 ^ 48)) (sym (counted c))

  added_as_far : (a x y : ℕ) → AsFar x y → AsFar (a + x) (a + y)
  added_as_far a x y same = omega arith

  digit_far : (a c byte : ℕ) (more : List ℕ) → is_ascii_digit byte ≡ true
      → AsFar (a + of (length_behind (min (c * 10 + (byte - 48)) (2 ^ 48)) more))
      (a + of (length_behind c (byte ∷ more)))
  digit_far a c byte more is =
      let behind : length_behind c (byte ∷ more) ≡ length_behind (c * 10 + (byte - 48)) more =
      rw is refl in
      added_as_far a _ _ (far_count (c * 10 + (byte - 48)) more)
      ∙ ap (λ l. min (a + of l) (2 ^ 48)) (sym behind)

  unit_far : (a c byte : ℕ) (more : List ℕ) → is_ascii_digit byte ≡ false
      → AsFar (min (a + min (c * of (unit_at byte more)) (2 ^ 48)) (2 ^ 48)
      + of (length_behind 0 more)) (a + of (length_behind c (byte ∷ more)))
  unit_far a c byte more is =
      let behind : of (length_behind c (byte ∷ more)) ≡ c * of (unit_at byte more)
      + of (length_behind 0 more) =
      rw is (of_plus (times c (unit_at byte more)) (length_behind 0 more)
      ∙ ap (λ n. n + of (length_behind 0 more)) (of_times c (unit_at byte more))) in
      let flat :
      AsFar (min (a + min (c * of (unit_at byte more)) (2 ^ 48)) (2 ^ 48)
      + of (length_behind 0 more))
      (a + (c * of (unit_at byte more) + of (length_behind 0 more))) =
      omega arith in
      flat ∙ ap (λ n. min (a + n) (2 ^ 48)) (sym behind)

pub digit_ms : (a c byte : ℕ) (more : List ℕ) → is_ascii_digit byte ≡ true
    → AsFar (a + (length_behind (min (c * 10 + (byte - 48)) (2 ^ 48)) more).ms)
    (a + (length_behind c (byte ∷ more)).ms)
digit_ms = digit_far (λ l. l.ms) (λ l k. refl) (λ c l. refl)

pub digit_steps : (a c byte : ℕ) (more : List ℕ) → is_ascii_digit byte ≡ true
    → AsFar (a + (length_behind (min (c * 10 + (byte - 48)) (2 ^ 48)) more).steps)
    (a + (length_behind c (byte ∷ more)).steps)
digit_steps = digit_far (λ l. l.steps) (λ l k. refl) (λ c l. refl)

pub unit_ms : (a c byte : ℕ) (more : List ℕ) → is_ascii_digit byte ≡ false
    → AsFar (min (a + min (c * (unit_at byte more).ms) (2 ^ 48)) (2 ^ 48)
    + (length_behind 0 more).ms) (a + (length_behind c (byte ∷ more)).ms)
unit_ms = unit_far (λ l. l.ms) (λ l k. refl) (λ c l. refl)

pub unit_steps : (a c byte : ℕ) (more : List ℕ) → is_ascii_digit byte ≡ false
    → AsFar (min (a + min (c * (unit_at byte more).steps) (2 ^ 48)) (2 ^ 48)
    + (length_behind 0 more).steps) (a + (length_behind c (byte ∷ more)).steps)
unit_steps = unit_far (λ l. l.steps) (λ l k. refl) (λ c l. refl)
