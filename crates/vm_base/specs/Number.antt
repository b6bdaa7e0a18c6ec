-- Decimal numbers. Each is counted in units of 10^-1000, so that it is a whole number: 1 is 10^1000
-- of them.
use Rattle.std.specs.Prelude.{ℕ, ◌+◌, ◌*◌, ◌/◌, ◌%◌, ◌^◌, ◌==◌, zero, suc, ℤ, pos, neg_ℤ, ◌+ℤ◌, ◌*ℤ◌, int_le, int_rem, int_div, unsigned_abs, Bool, true, false, Option, Some, None, if◌then◌else◌}
use Rattle.std.specs.Int.{is_negative}
use Rattle.std.specs.Ordering.{int_eq}

-- the number of this sign and size
abbrev pub signed : Bool → ℕ → ℤ
signed true size = neg_ℤ (pos size)
signed false size = pos size

-- `size * 10^(shift - 1000)`, or that below zero
abbrev pub number : Bool → ℕ → ℕ → ℤ
number negative size shift = signed negative (size * 10 ^ shift)

-- `m * 10^e`, none where that is no whole number of units
abbrev pub scaled : ℤ → ℤ → Option ℤ
scaled m e =
    let tens = pos (10 ^ unsigned_abs (e +ℤ pos 1000)) in
    if int_le (pos 0) (e +ℤ pos 1000) then Some (m *ℤ tens)
    else (if int_eq (int_rem m tens) (pos 0) then Some (int_div m tens) else None)

-- a number without its zeros at the end, at most so many, and how many those are
unfoldable pub stripped : ℕ → ℕ → ℕ × ℕ
stripped zero n = (n, 0)
stripped (suc more) n =
    if n % 10 == 0 then ((stripped more (n / 10)).0, (stripped more (n / 10)).1 + 1) else (n, 0)

-- a number in normal form: its mantissa, which has no zero at its end, and its exponent plus 1000
pub record Form : Type 0 where
  pub negative : Bool
  pub size : ℕ
  pub shift : ℕ

-- the normal form of a number; no number in reach has more than 2001 zeros at its end
unfoldable pub form_of : ℤ → Form
form_of z =
    if unsigned_abs z == 0 then record { negative = false; size = 0; shift = 1000 }
    else record {
      negative = is_negative z;
      size = (stripped 2001 (unsigned_abs z)).0;
      shift = (stripped 2001 (unsigned_abs z)).1;
    }
