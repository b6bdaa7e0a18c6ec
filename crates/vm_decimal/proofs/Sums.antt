-- Sums of numbers by their signs, sizes and shifts.
use Rattle.std.proofs.Common.{◌≡◌, ℕ, suc, ◌+◌, ◌-◌, ◌*◌, ◌%◌, ◌^◌, ◌<◌, ◌≤◌, ℤ, pos, ◌+ℤ◌, ◌-ℤ◌, Bool, true, false, not, None, refl, ap, sym, ◌∙◌, arith, pow-add}
use Rattle.std.proofs.Math.Nat.{mul_assoc, add-mul, pow-suc}
use Rattle.std.proofs.lemmas.Int.{ints}
use Rattle.vm_base.specs.Number.{signed, number}
use Rattle.vm_base.proofs.NumberLaws.{signed-zero}
use Rattle.vm_decimal.specs.Dec.{in_range}
use Rattle.vm_decimal.specs.Parts.{placed}
use Rattle.vm_decimal.proofs.Decs.{in_range-number, placed_wide}

-- the sign and the size of a sum
abbrev pub IsSum : Bool → ℕ → Bool → ℕ → Bool → ℕ → Type 0
IsSum n s a x b y = signed n s ≡ signed a x +ℤ signed b y

times : (t x y z : ℕ) → x ≡ y + z → x * t ≡ y * t + z * t
times t x y z is = ap (λ n. n * t) is ∙ add-mul y z t

none_times : (t x : ℕ) → x ≡ 0 → x * t ≡ 0
none_times t x none = ap (λ n. n * t) none ∙ omega arith

-- so many times a sum is the sum of so many times each
pub sum_times : (t : ℕ) (n : Bool) (s : ℕ) (a : Bool) (x : ℕ) (b : Bool) (y : ℕ)
    → IsSum n s a x b y → IsSum n (s * t) a (x * t) b (y * t)
sum_times t false s false x false y is =
    let h : s ≡ x + y = omega (arith, ints) in
    let all = times t s x y h in
    omega (arith, ints)
sum_times t false s false x true y is =
    let h : x ≡ s + y = omega (arith, ints) in
    let all = times t x s y h in
    omega (arith, ints)
sum_times t false s true x false y is =
    let h : y ≡ s + x = omega (arith, ints) in
    let all = times t y s x h in
    omega (arith, ints)
sum_times t false s true x true y is =
    let h : s ≡ 0 = omega (arith, ints) in
    let k : x ≡ 0 = omega (arith, ints) in
    let l : y ≡ 0 = omega (arith, ints) in
    let p = none_times t s h in
    let q = none_times t x k in
    let r = none_times t y l in
    omega (arith, ints)
sum_times t true s false x false y is =
    let h : s ≡ 0 = omega (arith, ints) in
    let k : x ≡ 0 = omega (arith, ints) in
    let l : y ≡ 0 = omega (arith, ints) in
    let p = none_times t s h in
    let q = none_times t x k in
    let r = none_times t y l in
    omega (arith, ints)
sum_times t true s false x true y is =
    let h : y ≡ s + x = omega (arith, ints) in
    let all = times t y s x h in
    omega (arith, ints)
sum_times t true s true x false y is =
    let h : x ≡ s + y = omega (arith, ints) in
    let all = times t x s y h in
    omega (arith, ints)
sum_times t true s true x true y is =
    let h : s ≡ x + y = omega (arith, ints) in
    let all = times t s x y h in
    omega (arith, ints)

-- a sum with a multiple of 10 ends as the other number does
pub last_kept : (n : Bool) (s : ℕ) (a : Bool) (x : ℕ) (b : Bool) (y : ℕ)
    → IsSum n s a x b y → x % 10 ≡ 0 → (y % 10 ≡ 0 → ⊥) → s % 10 ≡ 0 → ⊥
last_kept false s false x false y is none last end = last (omega (arith, ints))
last_kept false s false x true y is none last end = last (omega (arith, ints))
last_kept false s true x false y is none last end = last (omega (arith, ints))
last_kept false s true x true y is none last end = last (omega (arith, ints))
last_kept true s false x false y is none last end = last (omega (arith, ints))
last_kept true s false x true y is none last end = last (omega (arith, ints))
last_kept true s true x false y is none last end = last (omega (arith, ints))
last_kept true s true x true y is none last end = last (omega (arith, ints))

-- a sum of a greater and a smaller number
record Summed (a : Bool) (x : ℕ) (b : Bool) (y : ℕ) : Type 0 where
  pub size : ℕ
  pub is : IsSum a size a x b y
  pub far : x ≤ size + y

summed : (a : Bool) (x : ℕ) (b : Bool) (y : ℕ) → y ≤ x → Summed a x b y
summed false x false y less = record { size = x + y; is = omega (arith, ints); far = omega arith }
summed true x true y less = record { size = x + y; is = omega (arith, ints); far = omega arith }
summed false x true y less = record { size = x - y; is = omega (arith, ints); far = omega arith }
summed true x false y less = record { size = x - y; is = omega (arith, ints); far = omega arith }

-- a number with some of its zeros before its size's end
pub lowered_size : (size high low raised : ℕ) → low ≤ high → raised ≡ size * 10 ^ (high - low)
    → size * 10 ^ high ≡ raised * 10 ^ low
lowered_size size high low raised over is =
    let split : high ≡ high - low + low = omega arith in
    ap (λ n. size * 10 ^ n) split ∙ ap (λ n. size * n) (pow-add 10 (high - low) low)
    ∙ sym (mul_assoc size (10 ^ (high - low)) (10 ^ low)) ∙ ap (λ n. n * 10 ^ low) (sym is)

pub lowered : (a : Bool) (size high low raised : ℕ) → low ≤ high → raised ≡ size * 10 ^ (high - low)
    → number a size high ≡ number a raised low
lowered a size high low raised over is = ap (signed a) (lowered_size size high low raised over is)

pub ends_with_nought : (size high low raised : ℕ) → low < high → raised ≡ size * 10 ^ (high - low)
    → raised % 10 ≡ 0
ends_with_nought size high low raised over is =
    let gap : ℕ = high - low - 1 in
    let split : high - low ≡ suc gap = omega arith in
    let ten : raised ≡ 10 * (size * 10 ^ gap) =
    is ∙ ap (λ n. size * 10 ^ n) split ∙ omega (arith, ap (λ n. size * n) (pow-suc 10 gap)) in
    omega arith

-- the sum of two numbers of which the first has more zeros
pub uneven : (n : Bool) (s : ℕ) (a : Bool) (size high raised : ℕ) (b : Bool) (y low : ℕ)
    → low < high → raised ≡ size * 10 ^ (high - low) → IsSum n s a raised b y
    → (y % 10 ≡ 0 → ⊥)
    → placed n s (pos low) ≡ in_range (number a size high +ℤ number b y low)
uneven n s a size high raised b y low over is sum last =
    let end = last_kept n s a raised b y sum (ends_with_nought size high low raised over is) last in
    let whole : number n s low ≡ number a size high +ℤ number b y low =
    sum_times (10 ^ low) n s a raised b y sum
    ∙ ap (λ z. z +ℤ number b y low) (sym (lowered a size high low raised (omega arith) is)) in
    sym (in_range-number n s low end) ∙ ap in_range whole

-- where the first is far above the limit, so is the sum
pub far_sum : (a : Bool) (size high : ℕ) (b : Bool) (y low : ℕ)
    → low < high → 2 * 10 ^ 38 ≤ size * 10 ^ (high - low) → y < 10 ^ 38 → (y % 10 ≡ 0 → ⊥)
    → None ≡ in_range (number a size high +ℤ number b y low)
far_sum a size high b y low over far few last =
    let raised = size * 10 ^ (high - low) in
    let sum = summed a raised b y (omega arith) in
    sym (placed_wide a sum.size (pos low) (omega (arith, sum.far)))
    ∙ uneven a sum.size a size high raised b y low over refl sum.is last

-- the sum with zero
pub with_none : (z : ℤ) (b : Bool) (y low : ℕ) → y ≡ 0 → z ≡ z +ℤ number b y low
with_none z b y low none =
    let nought : number b y low ≡ pos 0 =
    ap (λ n. signed b (n * 10 ^ low)) none ∙ ap (signed b) (omega arith) ∙ signed-zero b in
    omega (arith, ints, nought)

-- the sum of numbers whose last digits count the same
pub level : (n : Bool) (s : ℕ) (a : Bool) (x : ℕ) (b : Bool) (y i j : ℕ) → i ≡ j → IsSum n s a x b y
    → in_range (number n s i) ≡ in_range (number a x i +ℤ number b y j)
level n s a x b y i j same sum =
    ap in_range (sum_times (10 ^ i) n s a x b y sum ∙ ap (λ k. number a x i +ℤ number b y k) same)

-- a number with the other sign is taken away
pub opposite_is : (z : ℤ) (n : Bool) (s : ℕ) → z +ℤ signed (not n) s ≡ z -ℤ signed n s
opposite_is z true s = omega (arith, ints)
opposite_is z false s = omega (arith, ints)
