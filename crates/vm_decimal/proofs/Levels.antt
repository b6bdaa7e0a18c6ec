-- Numbers at one power of ten.
use Rattle.std.proofs.Common.{◌≡◌, ℕ, zero, suc, ◌-◌, ◌*◌, ◌^◌, ◌<◌, ◌≤◌, ℤ, pos, negsuc, neg_ℤ, ◌+ℤ◌, ◌*ℤ◌, ◌<ℤ◌, unsigned_abs, Less, Equal, Greater, Ordering, false, refl, ap, ap₂, sym, ◌∙◌, arith, pow-add}
use Rattle.std.proofs.Math.Nat.{mul_assoc, mul-le-mul, mul-lt-mul_of_pos_right, pow-le-pow_right}
use Rattle.std.proofs.lemmas.Bool.Decides.{nat_tests}
use Rattle.std.proofs.lemmas.Int.{ints, unsigned_abs-mul}
use Rattle.std.specs.Cmp.{int_cmp_is, int_ranks}
use Rattle.std.specs.Int.{is_negative}
use Rattle.std.specs.Ordering.{int_cmp, MatchOrdering}
use Rattle.vm_base.specs.Form.{ten_pos}
use Rattle.vm_base.specs.Number.{signed, number}
use Rattle.vm_base.proofs.NumberLaws.{signed-parts}
use Rattle.vm_decimal.specs.Dec.{in_range}
use Rattle.vm_decimal.proofs.Sums.{sum_times}

-- a size with a sign, so many times
pub times_is : (m : ℤ) (p : ℕ) → signed (is_negative m) (unsigned_abs m * p) ≡ m *ℤ pos p
times_is (pos n) p =
    let plus : is_negative (pos n) ≡ false = grind (arith, nat_tests) in
    rw plus refl
times_is (negsuc n) p = refl

neg_times : (k q : ℕ) → neg_ℤ (pos k) *ℤ pos q ≡ neg_ℤ (pos (k * q))
neg_times zero q = omega (arith, ints)
neg_times (suc k) q = refl

times_twice : (m : ℤ) (p q : ℕ) → (m *ℤ pos p) *ℤ pos q ≡ m *ℤ pos (p * q)
times_twice (pos n) p q = ap pos (mul_assoc n p q)
times_twice (negsuc n) p q = neg_times (suc n * p) q
    ∙ ap (λ k. neg_ℤ (pos k)) (mul_assoc (suc n) p q)

-- a number by its mantissa, at a lesser shift
pub at_level : (m raised : ℤ) (shift low : ℕ) (z : ℤ) → low ≤ shift
    → number (is_negative m) (unsigned_abs m) shift ≡ z → raised ≡ m *ℤ pos (10 ^ (shift - low))
    → raised *ℤ pos (10 ^ low) ≡ z
at_level m raised shift low z over is raised_is =
    let split : 10 ^ (shift - low) * 10 ^ low ≡ 10 ^ shift =
    sym (pow-add 10 (shift - low) low) ∙ ap (λ n. 10 ^ n) (omega arith) in
    ap (λ r. r *ℤ pos (10 ^ low)) raised_is ∙ times_twice m (10 ^ (shift - low)) (10 ^ low)
    ∙ ap (λ n. m *ℤ pos n) split ∙ sym (times_is m (10 ^ shift)) ∙ is

-- a sum of multiples
times_sum : (a b : ℤ) (p : ℕ) → (a +ℤ b) *ℤ pos p ≡ (a *ℤ pos p) +ℤ (b *ℤ pos p)
times_sum a b p =
    let parts : signed (is_negative (a +ℤ b)) (unsigned_abs (a +ℤ b))
    ≡ signed (is_negative a) (unsigned_abs a) +ℤ signed (is_negative b) (unsigned_abs b) =
    signed-parts (a +ℤ b) ∙ sym (ap₂ ◌+ℤ◌ (signed-parts a) (signed-parts b)) in
    sym (times_is (a +ℤ b) p)
    ∙ sum_times p (is_negative (a +ℤ b)) (unsigned_abs (a +ℤ b)) (is_negative a) (unsigned_abs a)
    (is_negative b)
    (unsigned_abs b) parts
    ∙ ap₂ ◌+ℤ◌ (times_is a p) (times_is b p)

pub sum_at : (a b x y : ℤ) (k : ℕ) → a *ℤ pos (10 ^ k) ≡ x → b *ℤ pos (10 ^ k) ≡ y
    → in_range ((a +ℤ b) *ℤ pos (10 ^ k)) ≡ in_range (x +ℤ y)
sum_at a b x y k one two = ap in_range (times_sum a b (10 ^ k) ∙ ap₂ ◌+ℤ◌ one two)

-- 64 bits with 18 zeros after them are few digits
pub few_at : (m r : ℤ) (gap : ℕ) → unsigned_abs m ≤ 2 ^ 63 → gap ≤ 18 → r ≡ m *ℤ pos (10 ^ gap)
    → unsigned_abs r < 10 ^ 37
few_at m r gap few near is =
    let abs : unsigned_abs r ≡ unsigned_abs m * 10 ^ gap = ap unsigned_abs is
    ∙ unsigned_abs-mul m (pos (10 ^ gap)) in
    let power : 10 ^ gap ≤ 10 ^ 18 =
    pow-le-pow_right {n = 10} (omega arith) {i = gap} {j = 18} near in
    let most : unsigned_abs m * 10 ^ gap ≤ 2 ^ 63 * 10 ^ 18 = mul-le-mul few power in
    omega arith

-- the order of multiples
times_less : (a b : ℤ) (p : ℕ) → 0 < p → a <ℤ b → (a *ℤ pos p) <ℤ (b *ℤ pos p)
times_less (pos n) (pos m) p some less =
    let more : n * p < m * p = mul-lt-mul_of_pos_right {m = n} {n = m} (omega (arith, ints)) some in
    omega (arith, ints)
times_less (pos n) (negsuc m) p some less = absurd (omega (arith, ints))
times_less (negsuc n) (pos m) p some less =
    let more : 0 * p < suc n * p = mul-lt-mul_of_pos_right {m = 0} {n = suc n} (omega arith) some in
    omega (arith, ints)
times_less (negsuc n) (negsuc m) p some less =
    let more : suc m * p < suc n * p =
    mul-lt-mul_of_pos_right {m = suc m} {n = suc n} (omega (arith, ints)) some in
    omega (arith, ints)

pub order_at : (a b x y : ℤ) (k : ℕ) → a *ℤ pos (10 ^ k) ≡ x → b *ℤ pos (10 ^ k) ≡ y
    → int_cmp a b ≡ int_cmp x y
order_at a b x y k one two =
    int_cmp_is x y (int_cmp a b) (go (int_cmp a b) (int_ranks a b))
  where
    less : (c d : ℤ) → c <ℤ d → (c *ℤ pos (10 ^ k)) <ℤ (d *ℤ pos (10 ^ k))
    less c d = times_less c d (10 ^ k) (ten_pos k)

    go : (r : Ordering) → MatchOrdering r (a <ℤ b) (a ≡ b) (b <ℤ a)
        → MatchOrdering r (x <ℤ y) (x ≡ y) (y <ℤ x)
    go Less h = rw (← one, ← two) (less a b h)
    go Equal h = sym one ∙ ap (λ c. c *ℤ pos (10 ^ k)) h ∙ two
    go Greater h = rw (← one, ← two) (less b a h)
