-- Products of numbers by their signs, sizes and shifts.
use Rattle.std.proofs.Common.{◌≡◌, ℕ, zero, suc, ◌+◌, ◌*◌, ◌%◌, ◌^◌, ◌<◌, ◌≤◌, ◌⊎◌, inl, inr, ℤ, pos, negsuc, ◌+ℤ◌, ◌*ℤ◌, Bool, true, false, Option, Some, None, refl, ap, ap₂, sym, ◌∙◌, ⊎_elim, arith, pow-add}
use Rattle.std.proofs.Math.Nat.{mul_comm, mul-mul-mul_comm, zero-mod}
use Rattle.std.proofs.lemmas.Nat.{mul-mod, mul-mod_first, mul-pow}
use Rattle.vm_base.specs.Number.{signed, number}
use Rattle.vm_base.proofs.NumberLaws.{signed-zero}
use Rattle.vm_decimal.specs.Arithmetic.{product, differ}
use Rattle.vm_decimal.specs.Dec.{dec_of}
use Rattle.vm_decimal.specs.Parts.{placed}
use Rattle.vm_decimal.proofs.Decs.{dec_of-placed, dec_of-zero, noughts_add, placed_wide}

-- primes

two_by_rest : (r q : ℕ) → r < 2 → q < 2 → r * q % 2 ≡ 0 → (r ≡ 0) ⊎ (q ≡ 0)
two_by_rest zero q small less none = inl refl
two_by_rest (suc zero) q small less none = inr (omega arith)
two_by_rest (suc (suc r)) q small less none = absurd (omega arith)

two_of : (x y : ℕ) → x * y % 2 ≡ 0 → (x % 2 ≡ 0) ⊎ (y % 2 ≡ 0)
two_of x y none =
    two_by_rest (x % 2) (y % 2) (omega arith) (omega arith) (sym (mul-mod x y 2) ∙ none)

five_by_rest : (r q : ℕ) → r < 5 → q < 5 → r * q % 5 ≡ 0 → (r ≡ 0) ⊎ (q ≡ 0)
five_by_rest zero q small less none = inl refl
five_by_rest (suc zero) q small less none = inr (omega arith)
five_by_rest (suc (suc zero)) q small less none = inr (omega arith)
five_by_rest (suc (suc (suc zero))) q small less none = inr (omega arith)
five_by_rest (suc (suc (suc (suc zero)))) q small less none = inr (omega arith)
five_by_rest (suc (suc (suc (suc (suc r))))) q small less none = absurd (omega arith)

five_of : (x y : ℕ) → x * y % 5 ≡ 0 → (x % 5 ≡ 0) ⊎ (y % 5 ≡ 0)
five_of x y none =
    five_by_rest (x % 5) (y % 5) (omega arith) (omega arith) (sym (mul-mod x y 5) ∙ none)

-- what divides a factor divides the product
kept : (d m n : ℕ) → m % d ≡ 0 → m * n % d ≡ 0
kept d m n none =
    let nought : 0 * n ≡ 0 = omega arith in
    sym (mul-mod_first m n d) ∙ ap (λ k. k * n % d) none ∙ ap (λ k. k % d) nought ∙ zero-mod d

-- factors without their tens

-- twos of one and fives of the other go
pub record Parted (x y twos fives tens : ℕ) : Type 0 where
  pub first : x ≡ twos * 2 ^ tens
  pub second : y ≡ fives * 5 ^ tens
  pub done : twos % 2 ≡ 0 → fives % 5 ≡ 0 → ⊥

tens_out : (x y twos fives tens : ℕ) → x ≡ twos * 2 ^ tens → y ≡ fives * 5 ^ tens
    → x * y ≡ twos * fives * 10 ^ tens
tens_out x y twos fives tens first second =
    ap₂ (λ m n. m * n) first second
    ∙ mul-mul-mul_comm twos (2 ^ tens) fives (5 ^ tens)
    ∙ ap (λ n. twos * fives * n) (sym (mul-pow 2 5 tens))

-- both ways, then no ten is left
module _ (x y f g s p q t : ℕ) (first : Parted x y f g s) (then : Parted g f q p t) where
  pub all_tens : x * y ≡ q * p * 10 ^ (t + s)
  all_tens =
      tens_out x y f g s first.first first.second ∙ ap (λ n. n * 10 ^ s) (mul_comm f g)
      ∙ ap (λ n. n * 10 ^ s) (tens_out g f q p t then.first then.second)
      ∙ noughts_add (q * p) t s

  even_left : p % 2 ≡ 0 → q % 5 ≡ 0 → ⊥
  even_left even five =
      first.done (ap (λ n. n % 2) then.second ∙ kept 2 p (5 ^ t) even)
      (ap (λ n. n % 5) then.first ∙ kept 5 q (2 ^ t) five)

  ten_left : p % 10 ≡ 0 → x % 10 ≡ 0
  ten_left none =
      ap (λ n. n % 10) first.first
      ∙ kept 10 f (2 ^ s) (ap (λ n. n % 10) then.second ∙ kept 10 p (5 ^ t) none)

  ten_right : q % 10 ≡ 0 → y % 10 ≡ 0
  ten_right none =
      ap (λ n. n % 10) first.second
      ∙ kept 10 g (5 ^ s) (ap (λ n. n % 10) then.first ∙ kept 10 q (2 ^ t) none)

  pub no_ten : (x % 10 ≡ 0 → ⊥) → (y % 10 ≡ 0 → ⊥) → q * p % 10 ≡ 0 → ⊥
  no_ten last last_too none =
      ⊎_elim
      (λ (q_even : q % 2 ≡ 0).
      ⊎_elim
      (λ (q_five : q % 5 ≡ 0). last_too (ten_right (omega arith)))
      (λ (p_five : p % 5 ≡ 0). then.done q_even p_five)
      (five_of q p (omega arith)))
      (λ (p_even : p % 2 ≡ 0).
      ⊎_elim
      (λ (q_five : q % 5 ≡ 0). even_left p_even q_five)
      (λ (p_five : p % 5 ≡ 0). last (ten_left (omega arith)))
      (five_of q p (omega arith)))
      (two_of q p (omega arith))

-- signs

pub signed_mul : (a : Bool) (x : ℕ) (b : Bool) (y : ℕ)
    → signed a x *ℤ signed b y ≡ signed (differ a b) (x * y)
signed_mul false x false y = refl
signed_mul false x true zero = let none : x * 0 ≡ 0 = omega arith in rw none refl
signed_mul false x true (suc y) = refl
signed_mul true zero false y = let none : 0 * y ≡ 0 = omega arith in rw none refl
signed_mul true (suc x) false y = refl
signed_mul true zero true zero = refl
signed_mul true zero true (suc y) = let none : 0 * suc y ≡ 0 = omega arith in rw none refl
signed_mul true (suc x) true zero = let none : suc x * 0 ≡ 0 = omega arith in rw none refl
signed_mul true (suc x) true (suc y) = refl

-- the product of two numbers
number_mul : (a : Bool) (x i : ℕ) (b : Bool) (y j size tens : ℕ) → x * y ≡ size * 10 ^ tens
    → number a x i *ℤ number b y j ≡ signed (differ a b) (size * 10 ^ (tens + (i + j)))
number_mul a x i b y j size tens whole =
    let together : x * 10 ^ i * (y * 10 ^ j) ≡ x * y * (10 ^ i * 10 ^ j) =
    mul-mul-mul_comm x (10 ^ i) y (10 ^ j) in
    let tens_too : x * y * (10 ^ i * 10 ^ j) ≡ size * 10 ^ tens * 10 ^ (i + j) =
    ap₂ (λ m n. m * n) whole (sym (pow-add 10 i j)) in
    signed_mul a (x * 10 ^ i) b (y * 10 ^ j)
    ∙ ap (signed (differ a b)) (together ∙ tens_too ∙ noughts_add size tens (i + j))

pub product_placed :
    (a : Bool) (x i : ℕ) (b : Bool) (y j size tens : ℕ) {shift : ℤ} {found : Option ℤ}
    → found ≡ placed (differ a b) size shift → x * y ≡ size * 10 ^ tens → (size % 10 ≡ 0 → ⊥)
    → shift ≡ negsuc 1999 +ℤ pos (1000 + (tens + (i + j)))
    → found ≡ product (number a x i) (number b y j)
unfolding product
product_placed a x i b y j size tens {shift} found whole last is =
    found
    ∙ sym (ap (λ z. dec_of z (negsuc 1999)) (number_mul a x i b y j size tens whole)
    ∙ dec_of-placed (differ a b) size (tens + (i + j)) last (negsuc 1999) shift is)

pub product_wide : (a : Bool) (x i : ℕ) (b : Bool) (y j size tens : ℕ)
    → 10 ^ 38 ≤ size → x * y ≡ size * 10 ^ tens → (size % 10 ≡ 0 → ⊥)
    → None ≡ product (number a x i) (number b y j)
product_wide a x i b y j size tens wide whole last =
    let shift = negsuc 1999 +ℤ pos (1000 + (tens + (i + j))) in
    product_placed a x i b y j size tens {shift = shift}
    (sym (placed_wide (differ a b) size shift wide))
    whole last refl

-- zero times any number
zero_mul : (z : ℤ) → pos 0 *ℤ z ≡ pos 0
zero_mul (pos n) = ap pos (omega arith)
zero_mul (negsuc n) = let none : 0 * suc n ≡ 0 = omega arith in rw none refl

mul_zero : (z : ℤ) → z *ℤ pos 0 ≡ pos 0
mul_zero (pos n) = ap pos (omega arith)
mul_zero (negsuc n) = let none : suc n * 0 ≡ 0 = omega arith in rw none refl

nought : (a : Bool) (x i : ℕ) → x ≡ 0 → number a x i ≡ pos 0
nought a x i none = ap (signed a) (ap (λ n. n * 10 ^ i) none ∙ omega arith) ∙ signed-zero a

pub product_none : (a : Bool) (x i : ℕ) (z : ℤ) → x ≡ 0 → Some (pos 0) ≡ product (number a x i) z
unfolding product
product_none a x i z none =
    sym (ap (λ y. dec_of (y *ℤ z) (negsuc 1999)) (nought a x i none)
    ∙ ap (λ y. dec_of y (negsuc 1999)) (zero_mul z) ∙ dec_of-zero (negsuc 1999))

pub product_none_too : (a : Bool) (x i : ℕ) (z : ℤ) → x ≡ 0
    → Some (pos 0) ≡ product z (number a x i)
unfolding product
product_none_too a x i z none =
    sym (ap (λ y. dec_of (z *ℤ y) (negsuc 1999)) (nought a x i none)
    ∙ ap (λ y. dec_of y (negsuc 1999)) (mul_zero z) ∙ dec_of-zero (negsuc 1999))
