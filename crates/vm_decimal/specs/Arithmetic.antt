-- What calculation gives. Numbers are counted in units of 10^-1000, so the sum, the difference and
-- the remainder of two are those of whole numbers, and `in_range` says which of them are numbers
-- again.
use Rattle.std.specs.Prelude.{ℕ, ◌+◌, ◌-◌, ◌*◌, ◌^◌, nat_lt, ℤ, pos, negsuc, neg_ℤ, ◌-ℤ◌, ◌*ℤ◌, int_rem, unsigned_abs, Bool, true, false, Option, Some, None, option_map, if◌then◌else◌}
use Rattle.std.specs.Int.{is_negative, int_rem_euclid}
use Rattle.std.specs.Ordering.{int_eq}
use Rattle.vm_base.specs.Number.{signed, form_of}
use Rattle.vm_base.specs.Rounding.{nearest}
use Rattle.vm_decimal.specs.Dec.{in_range, dec_of}

-- 1 in units of 10^-1000
unfoldable pub ones : ℕ
ones = 10 ^ 1000

-- the greatest whole number that isn't above z: z less what it has after the point, which isn't
-- below 0
unfoldable pub floor_of : ℤ → ℤ
floor_of z = z -ℤ int_rem_euclid z (pos ones)

-- the least whole number that isn't below z
unfoldable pub ceil_of : ℤ → ℤ
ceil_of z = neg_ℤ (floor_of (neg_ℤ z))

-- a product of counts in units of 10^-1000 counts units of 10^-2000
unfoldable pub product : ℤ → ℤ → Option ℤ
product a b = dec_of (a *ℤ b) (negsuc 1999)

-- whether two signs differ
abbrev pub differ : Bool → Bool → Bool
differ false two = two
differ true true = false
differ true false = true

-- a divided by b, rounded to the nearest whole number, and to the even one of two that are as near
abbrev pub nearest_quotient : ℤ → ℤ → ℤ
nearest_quotient a b =
    signed (differ (is_negative a) (is_negative b)) (nearest (unsigned_abs a) (unsigned_abs b))

-- the dividend as it is written with so many zeros more, and with as many as the divisor's last
-- digit asks for besides
abbrev pub scaled_dividend : ℕ → ℤ → ℤ → ℕ
scaled_dividend noughts a b =
    (form_of a).size * 10 ^ ((form_of a).shift + noughts - (form_of b).shift)

-- out of range where the scaled dividend has more than 38 digits
abbrev pub if_scaled : ℕ → ℤ → ℤ → Option ℤ → Option ℤ
if_scaled noughts a b found = if nat_lt (scaled_dividend noughts a b) (10 ^ 38) then found else None

-- nothing where the divisor is zero
abbrev pub if_divides : ℤ → Option ℤ → Option (Option ℤ)
if_divides b found = if int_eq b (pos 0) then Some None else option_map Some found

-- what is left of a once multiples of b are taken off, with the sign of a
unfoldable pub remainder : ℤ → ℤ → Option (Option ℤ)
remainder a b = if_divides b (if_scaled 0 a b (in_range (int_rem a b)))

-- the quotient rounded to whole billionths
unfoldable pub quotient9 : ℤ → ℤ → Option (Option ℤ)
quotient9 a b =
    if_divides b (if_scaled 9 a b (dec_of (nearest_quotient (a *ℤ pos (10 ^ 9)) b) (negsuc 8)))

-- the multiple of the unit that is nearest to a
unfoldable pub nearest_multiple : ℤ → ℤ → Option ℤ
nearest_multiple a unit = if_scaled 0 a unit (in_range (nearest_quotient a unit *ℤ unit))
