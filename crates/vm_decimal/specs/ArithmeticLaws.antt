-- What a reader expects of remainders and quotients, in words that don't compute.
use Rattle.std.specs.Prelude.{◌≡◌, ◌*◌, ◌%◌, ◌^◌, ◌<◌, ◌≤◌, ℤ, pos, negsuc, neg_ℤ, ◌+ℤ◌, ◌-ℤ◌, ◌*ℤ◌, unsigned_abs, true, Some}
use Rattle.std.specs.Int.{is_negative}
use Rattle.vm_decimal.specs.Dec.{dec_of}

-- a is a whole multiple of b and r, which is nearer to zero than b, and has no sign that a hasn't
pub record IsRest (a b r : ℤ) : Type 0 where
  pub quotient : ℤ
  pub whole : quotient *ℤ b +ℤ r ≡ a
  pub near : unsigned_abs r < unsigned_abs b
  pub sign : is_negative r ≡ true → is_negative a ≡ true
  pub sign_too : is_negative a ≡ true → is_negative (neg_ℤ r) ≡ true → ⊥

-- z is a whole number of billionths, as near to a / b as one can be, and even where two are as near
pub record IsQuotient9 (a b z : ℤ) : Type 0 where
  pub billionths : ℤ
  pub is : dec_of billionths (negsuc 8) ≡ Some z
  pub near : 2 * unsigned_abs (a *ℤ pos (10 ^ 9) -ℤ billionths *ℤ b) ≤ unsigned_abs b
  pub even : 2 * unsigned_abs (a *ℤ pos (10 ^ 9) -ℤ billionths *ℤ b) ≡ unsigned_abs b
      → unsigned_abs billionths % 2 ≡ 0
