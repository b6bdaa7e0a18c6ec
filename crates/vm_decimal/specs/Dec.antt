-- The numbers that a calculation can have.
use Rattle.std.specs.Prelude.{◌≡◌, ℕ, ◌%◌, ◌^◌, ◌<◌, ◌≤◌, ◌&&◌, nat_lt, nat_le, ℤ, Bool, false, Option, Some, None, if◌then◌else◌}
use Rattle.std.specs.Option.{option_and_then}
use Rattle.vm_base.specs.Number.{form_of, scaled}
use Rattle.vm_base.specs.Sample.{is_sample}

-- whether a number has at most 38 digits and an exponent from -1000 to 1000 in normal form
abbrev pub is_dec : ℤ → Bool
is_dec z = nat_lt (form_of z).size (10 ^ 38) && nat_le (form_of z).shift 2000

-- the number, none where it is out of range
abbrev pub in_range : ℤ → Option ℤ
in_range z = if is_dec z then Some z else None

-- `m * 10^e`, none where that is out of range
unfoldable pub dec_of : ℤ → ℤ → Option ℤ
dec_of m e = option_and_then in_range (scaled m e)

-- the number, none where it is no sample
abbrev pub as_sample : ℤ → Option ℤ
as_sample z = if is_sample z then Some z else None

-- the parts of a decimal number are in normal form and within its limits
pub record IsDecForm (negative : Bool) (size shift : ℕ) : Type 0 where
  pub few : size < 10 ^ 38
  pub high : shift ≤ 2000
  pub short : size % 10 ≡ 0 → size ≡ 0
  pub plus : size ≡ 0 → negative ≡ false
  pub here : size ≡ 0 → shift ≡ 1000
