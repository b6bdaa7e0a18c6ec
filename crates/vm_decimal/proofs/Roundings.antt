-- Numbers rounded to their first 18 digits.
use Rattle.std.specs.Prelude.{◌≡◌, ℕ, zero, suc, ◌+◌, ◌*◌, ◌/◌, ◌%◌, ◌^◌, ◌<◌, ◌≤◌, ◌⊎◌, nat_lt, Bool, true, false}
use Rattle.std.proofs.Common.{refl, arith, sym, ap, subst, ◌∙◌, ⊎_elim, add-one, add-suc, pow-add}
use Rattle.std.proofs.Math.Nat.{pow-suc, pow-le-pow_right, mul-le-mul_right}
use Rattle.std.proofs.lemmas.Bool.{cases_eq, cases_lt, cases_order, cases_Bool}
use Rattle.std.proofs.lemmas.Bool.Decides.{nat_tests}
use Rattle.std.proofs.lemmas.Nat.{div-add-mod'}
use Rattle.vm_base.specs.Form.{ten_pos, tens}
use Rattle.vm_base.specs.Rounding.{nearest}
use Rattle.vm_base.proofs.RoundingLaws.{IsNearest, IsNearest-whole, IsNearest-next, IsNearest-one, nearest-IsNearest}
use Rattle.vm_decimal.specs.inner.Leading.{Leads, IsRounding, tenth_of}
use Rattle.vm_decimal.specs.Rounded.{surplus_within, surplus}
use Rattle.vm_decimal.specs.declared.leading.Leading.{Leading}

power_next : (k : ℕ) → 10 ^ suc k ≡ 10 * 10 ^ k
power_next k = omega (arith, pow-suc 10 k)

-- how many digits stand after the first 18

pub surplus-few : (more n : ℕ) → n < 10 ^ 18 → surplus_within more n ≡ 0
unfolding surplus_within
surplus-few zero n few = refl
surplus-few (suc more) n few =
    let yes : nat_lt n (10 ^ 18) ≡ true = grind (arith, nat_tests) in
    rw yes refl

pub surplus-many : (more n : ℕ) → 10 ^ 18 ≤ n
    → surplus_within (suc more) n ≡ surplus_within more (n / 10) + 1
unfolding surplus_within
surplus-many more n many =
    let no : nat_lt n (10 ^ 18) ≡ false = grind (arith, nat_tests) in
    rw no refl

surplus_on : (more n k : ℕ) → n ≤ more → 10 ^ (18 + k) ≤ n → n < 10 ^ (19 + k)
    → surplus_within more n ≡ suc k
surplus_on zero n k within low high = absurd (omega (arith, ten_pos (18 + k)))
surplus_on (suc more) n zero within low high =
    surplus-many more n low ∙ ap (λ d. d + 1) (surplus-few more (n / 10) (omega arith))
surplus_on (suc more) n (suc k) within low high =
    let first : 10 ^ (18 + suc k) ≡ 10 * 10 ^ (18 + k) = ap (λ e. 10 ^ e) (add-suc 18 k)
    ∙ power_next (18 + k) in
    let next : 10 ^ (19 + suc k) ≡ 10 * 10 ^ (19 + k) = ap (λ e. 10 ^ e) (add-suc 19 k)
    ∙ power_next (19 + k) in
    let great : 10 ^ 18 ≤ 10 ^ (18 + suc k) =
    pow-le-pow_right {n = 10} (omega arith) {i = 18} {j = 18 + suc k} (omega arith) in
    surplus-many more n (omega arith)
    ∙ ap (λ d. d + 1) (surplus_on more (n / 10) k (omega arith) (omega arith) (omega arith))
    ∙ add-one (suc k)

-- a number of at most 18 digits has none more, and one of 18 + k + 1 digits has k + 1
pub surplus-short : (n : ℕ) → n < 10 ^ 18 → surplus n ≡ 0
surplus-short n few = surplus-few n n few

pub surplus-long : (n k : ℕ) → 10 ^ (18 + k) ≤ n → n < 10 ^ (19 + k) → surplus n ≡ suc k
surplus-long n k low high = surplus_on n n k (omega arith) low high

-- rounding

-- a whole number is its own nearest one
pub nearest-one : (n : ℕ) → nearest n 1 ≡ n
nearest-one n =
    let itself : IsNearest n 1 n = record {
      above = omega arith;
      below = omega arith;
      tie_above = λ tie. absurd (omega arith);
      tie_below = λ tie. absurd (omega arith);
    } in
    IsNearest-one n 1 (nearest n 1) n (omega arith) (nearest-IsNearest n 1 (omega arith)) itself

module _ (kept k tail : ℕ) (less : tail < 10 ^ k) where
  -- the number, its tenth part and what is left of that
  abbrev all : ℕ
  all = kept * 10 ^ k + tail

  abbrev left : ℕ
  left = kept % 10 * 10 ^ k + tail

  parts : kept / 10 * 10 ^ suc k + left ≡ all
  parts =
      let split : kept / 10 * 10 + kept % 10 ≡ kept = div-add-mod' kept 10 in
      let spread : (kept / 10 * 10 + kept % 10) * 10 ^ k ≡ kept * 10 ^ k =
      ap (λ m. m * 10 ^ k) split in
      omega (arith, spread, tens (kept / 10) k)

  tens_is : 10 ^ suc k ≡ 10 * 10 ^ k
  tens_is = power_next k

  by_last : (sticky : Bool) → (sticky ≡ true → 0 < tail) → (sticky ≡ false → tail ≡ 0)
      → IsNearest all (10 ^ suc k) (tenth_of kept sticky)
  by_last sticky some none =
      ⊎_elim
      (λ (half : kept % 10 ≡ 5).
      let five : kept % 10 * 10 ^ k ≡ 5 * 10 ^ k = ap (λ m. m * 10 ^ k) half in
      ⊎_elim
      (λ (more : sticky ≡ true).
      let up : tenth_of kept sticky ≡ kept / 10 + 1 = grind (arith, nat_tests) in
      rw up (IsNearest-next all (10 ^ suc k) (kept / 10) left parts (omega (arith, tens_is))
      (omega (arith, tens_is))
      (λ tie even. let above = some more in absurd (omega (arith, tens_is)))))
      (λ (exact : sticky ≡ false).
      ⊎_elim
      (λ (odd : kept / 10 % 2 ≡ 1).
      let up : tenth_of kept sticky ≡ kept / 10 + 1 = grind (arith, nat_tests) in
      rw up (IsNearest-next all (10 ^ suc k) (kept / 10) left parts (omega (arith, tens_is))
      (omega (arith, tens_is))
      (λ tie even. absurd (omega arith))))
      (λ (even : kept / 10 % 2 ≡ 1 → ⊥).
      let down : tenth_of kept sticky ≡ kept / 10 = grind (arith, nat_tests) in
      let nothing : tail ≡ 0 = none exact in
      rw down (IsNearest-whole all (10 ^ suc k) (kept / 10) left parts (omega (arith, tens_is))
      (λ tie. omega arith)))
      (cases_eq (kept / 10 % 2) 1))
      (cases_Bool sticky))
      (⊎_elim
      (λ (below : kept % 10 < 5).
      let four : kept % 10 * 10 ^ k ≤ 4 * 10 ^ k =
      mul-le-mul_right {m = kept % 10} {n = 4} (10 ^ k) (omega arith) in
      let down : tenth_of kept sticky ≡ kept / 10 = grind (arith, nat_tests) in
      rw down (IsNearest-whole all (10 ^ suc k) (kept / 10) left parts (omega (arith, tens_is))
      (λ tie. absurd (omega (arith, tens_is)))))
      (λ (above : 5 < kept % 10).
      let six : 6 * 10 ^ k ≤ kept % 10 * 10 ^ k =
      mul-le-mul_right {m = 6} {n = kept % 10} (10 ^ k) (omega arith) in
      let nine : kept % 10 * 10 ^ k ≤ 9 * 10 ^ k =
      mul-le-mul_right {m = kept % 10} {n = 9} (10 ^ k) (omega arith) in
      let up : tenth_of kept sticky ≡ kept / 10 + 1 = grind (arith, nat_tests) in
      rw up (IsNearest-next all (10 ^ suc k) (kept / 10) left parts (omega (arith, tens_is))
      (omega (arith, tens_is))
      (λ tie. absurd (omega (arith, tens_is))))))
      (cases_order (kept % 10) 5)

-- kept digits and a number

none_dropped : (l : Leading) (n : ℕ) → l.kept < 10 ^ 18 → Leads l n
    → (l.dropped ≡ 0) × (10 ^ l.dropped ≡ 1) × (n ≡ l.kept) × (l.sticky ≡ false)
none_dropped l n few is =
    let none : l.dropped ≡ 0 =
    ⊎_elim (λ none. none) (λ some. let many = is.many (omega arith) in absurd (omega arith))
    (cases_eq l.dropped 0) in
    let one : 10 ^ l.dropped ≡ 1 = ap (λ k. 10 ^ k) none in
    let whole = is.whole in
    let less = is.less in
    let same : l.kept * 10 ^ l.dropped ≡ l.kept * 1 = ap (λ p. l.kept * p) one in
    let exact : l.sticky ≡ false =
    ⊎_elim (λ more. let above = is.some more in absurd (omega arith)) (λ no_more. no_more)
    (cases_Bool l.sticky) in
    (none, one, omega arith, exact)

-- one digit more, which is kept or dropped
pub kept_more : (l : Leading) (n digit : ℕ) → l.kept < 10 ^ 18 → digit < 10 → Leads l n
    → Leads (record { kept = l.kept * 10 + digit; dropped = l.dropped; sticky = l.sticky })
    (n * 10 + digit)
kept_more l n digit few small is =
    let bare = none_dropped l n few is in
    let none = bare.0 in
    let one = bare.1 in
    let same = bare.2 in
    let whole : (l.kept * 10 + digit) * 10 ^ l.dropped ≡ (l.kept * 10 + digit) * 1 =
    ap (λ p. (l.kept * 10 + digit) * p) one in
    record {
      tail = 0;
      whole = omega arith;
      less = omega arith;
      some = λ more. absurd (cc (more, bare.3));
      none = λ _. refl;
      few = omega arith;
      many = λ some. absurd (omega arith);
    }

pub dropped_more : (l : Leading) (n digit : ℕ) (sticky : Bool) → (l.kept < 10 ^ 18 → ⊥) → digit < 10
    → (sticky ≡ true → (l.sticky ≡ true) ⊎ (0 < digit))
    → (sticky ≡ false → (l.sticky ≡ false) × (digit ≡ 0)) → Leads l n
    → Leads (record { kept = l.kept; dropped = l.dropped + 1; sticky = sticky }) (n * 10 + digit)
dropped_more l n digit sticky many small above_zero all_zero is =
    let whole = is.whole in
    let less = is.less in
    let next : 10 ^ (l.dropped + 1) ≡ 10 * 10 ^ l.dropped =
    ap (λ k. 10 ^ k) (add-one l.dropped) ∙ power_next l.dropped in
    let spread : l.kept * 10 ^ (l.dropped + 1) ≡ 10 * (l.kept * 10 ^ l.dropped) =
    ap (λ k. l.kept * 10 ^ k) (add-one l.dropped) ∙ tens l.kept l.dropped in
    record {
      tail = is.tail * 10 + digit;
      whole = omega arith;
      less = omega arith;
      some = λ more.
          ⊎_elim (λ before. let above = is.some before in omega arith) (λ here. omega arith)
          (above_zero more);
      none = λ no_more.
          let nothing = is.none (all_zero no_more).0 in
          let nought = (all_zero no_more).1 in
          omega arith;
      few = is.few;
      many = λ _. omega arith;
    }

-- the rounding of few digits and of many
pub few_rounding : (l : Leading) (n : ℕ) → l.kept < 10 ^ 18 → Leads l n → IsRounding n l.kept 0
few_rounding l n few is =
    let same = (none_dropped l n few is).2 in
    record {
      more_is = sym (surplus-short n (omega arith));
      size_is = sym same ∙ sym (nearest-one n);
    }

pub many_rounding : (l : Leading) (n : ℕ) → (l.kept < 10 ^ 18 → ⊥) → Leads l n
    → IsRounding n (tenth_of l.kept l.sticky) (l.dropped + 1)
many_rounding l n many is =
    let k = l.dropped in
    let whole = is.whole in
    let less = is.less in
    let few = is.few in
    let low : 10 ^ (18 + k) ≡ 10 ^ 18 * 10 ^ k = pow-add 10 18 k in
    let high : 10 ^ (19 + k) ≡ 10 ^ 19 * 10 ^ k = pow-add 10 19 k in
    let above : 10 ^ 18 * 10 ^ k ≤ l.kept * 10 ^ k =
    mul-le-mul_right {m = 10 ^ 18} {n = l.kept} (10 ^ k) (omega arith) in
    let below : suc l.kept * 10 ^ k ≤ 10 ^ 19 * 10 ^ k =
    mul-le-mul_right {m = suc l.kept} {n = 10 ^ 19} (10 ^ k) few in
    let more : surplus n ≡ suc k = surplus-long n k (omega arith) (omega arith) in
    let near : IsNearest n (10 ^ suc k) (tenth_of l.kept l.sticky) =
    subst (λ m. IsNearest m (10 ^ suc k) (tenth_of l.kept l.sticky)) (sym whole)
    (by_last l.kept k is.tail less l.sticky is.some is.none) in
    record {
      more_is = add-one k ∙ sym more;
      size_is =
          IsNearest-one n (10 ^ suc k) (tenth_of l.kept l.sticky) (nearest n (10 ^ suc k))
          (ten_pos (suc k))
          near (nearest-IsNearest n (10 ^ suc k) (ten_pos (suc k)))
          ∙ ap (λ e. nearest n (10 ^ e)) (sym (add-one k));
    }

-- the rounded number has at most 18 digits, or is 10^18

surplus_reaches : (more n : ℕ) → n ≤ more → n < 10 ^ (18 + surplus_within more n)
surplus_reaches zero n within =
    let low : 10 ^ 18 ≤ 10 ^ (18 + surplus_within 0 n) =
    pow-le-pow_right {n = 10} (omega arith) {i = 18} {j = 18 + surplus_within 0 n} (omega arith) in
    omega arith
surplus_reaches (suc more) n within =
    ⊎_elim
    (λ (few : n < 10 ^ 18).
    subst (λ k. n < 10 ^ (18 + k)) (sym (surplus-few (suc more) n few)) few)
    (λ (many : 10 ^ 18 ≤ n).
    let rest : n / 10 < 10 ^ (18 + surplus_within more (n / 10)) =
    surplus_reaches more (n / 10) (omega arith) in
    let next : 10 ^ suc (18 + surplus_within more (n / 10)) ≡ 10
    * 10 ^ (18 + surplus_within more (n / 10)) =
    power_next (18 + surplus_within more (n / 10)) in
    let far : suc (18 + surplus_within more (n / 10)) ≡ 18 + surplus_within (suc more) n =
    omega (arith, surplus-many more n many) in
    subst (λ k. n < 10 ^ k) far (omega arith))
    (cases_lt n (10 ^ 18))

pub nearest-surplus : (n : ℕ) → nearest n (10 ^ surplus n) ≤ 10 ^ 18
nearest-surplus n =
    let d = 10 ^ surplus n in
    let q = nearest n (10 ^ surplus n) in
    let some : 0 < 10 ^ surplus n = ten_pos (surplus n) in
    let reaches : n < 10 ^ (18 + surplus n) = surplus_reaches n n (omega arith) in
    let parts : 10 ^ (18 + surplus n) ≡ 10 ^ 18 * 10 ^ surplus n = pow-add 10 18 (surplus n) in
    let near = (nearest-IsNearest n (10 ^ surplus n) some).below in
    ⊎_elim
    (λ (over : 10 ^ 18 < nearest n (10 ^ surplus n)).
    let times : suc (10 ^ 18) * 10 ^ surplus n ≤ nearest n (10 ^ surplus n) * 10 ^ surplus n =
    mul-le-mul_right {m = suc (10 ^ 18)} {n = nearest n (10 ^ surplus n)} (10 ^ surplus n) over in
    absurd (omega arith))
    (λ within. within)
    (cases_lt (10 ^ 18) (nearest n (10 ^ surplus n)))
