-- The numbers that a sample can have.
use Rattle.std.specs.Prelude.{◌≡◌, ℕ, ◌%◌, ◌^◌, ◌<◌, ◌≤◌, ◌&&◌, nat_lt, nat_le, ℤ, pos, ◌-ℤ◌, Bool, false, Option, Some, None, if◌then◌else◌}
use Rattle.std.specs.Option.{option_and_then}
use Rattle.vm_base.specs.Number.{form_of, scaled, signed}

-- whether a number has at most 18 digits and an exponent from -350 to 350 in normal form
abbrev pub is_sample : ℤ → Bool
is_sample z =
    nat_lt (form_of z).size (10 ^ 18) && nat_le 650 (form_of z).shift
    && nat_le (form_of z).shift 1350

-- `m * 10^e`, none where that is no sample
abbrev pub sample_of : ℤ → ℤ → Option ℤ
sample_of m e = option_and_then (λ z. if is_sample z then Some z else None) (scaled m e)

-- the mantissa and the exponent of a number in normal form
abbrev pub mantissa : ℤ → ℤ
mantissa z = signed (form_of z).negative (form_of z).size

abbrev pub exponent : ℤ → ℤ
exponent z = pos (form_of z).shift -ℤ pos 1000

-- the parts of a sample are in normal form and within its limits
pub record IsSampleForm (negative : Bool) (size shift : ℕ) : Type 0 where
  pub few : size < 10 ^ 18
  pub low : 650 ≤ shift
  pub high : shift ≤ 1350
  pub short : size % 10 ≡ 0 → size ≡ 0
  pub plus : size ≡ 0 → negative ≡ false
  pub here : size ≡ 0 → shift ≡ 1000
