-- Numbers by a sign, a size and a shift. Only inner contracts cite them.
use Rattle.std.specs.Prelude.{◌≡◌, ℕ, ◌*◌, ◌%◌, ◌^◌, ◌<◌, ◌≤◌, ◌&&◌, nat_lt, int_le, ℤ, pos, ◌*ℤ◌, unsigned_abs, Bool, Option, Some, None, if◌then◌else◌}
use Rattle.vm_base.specs.Number.{number}
use Rattle.vm_decimal.specs.declared.level.Leveled.{Leveled}
use Rattle.vm_decimal.specs.declared.parts.Parts.{Parts}
use Rattle.vm_decimal.specs.declared.parts.Scaled.{Scaled}

-- the number of a size that doesn't end with 0, none where it is out of range
abbrev pub placed : Bool → ℕ → ℤ → Option ℤ
placed negative size shift =
    if nat_lt size (10 ^ 38) && int_le (pos 0) shift && int_le shift (pos 2000)
    then Some (number negative size (unsigned_abs shift)) else None

-- `size * 10^shift`
abbrev pub whole : Scaled → ℕ
whole s = s.size * 10 ^ s.shift

-- the number of its parts
abbrev pub value : Parts → ℤ
value p = number p.negative p.size p.shift

-- a size and a shift within the limits, where the size doesn't end with 0 but where it is 0
pub record IsBare (size shift : ℕ) : Type 0 where
  pub few : size < 10 ^ 38
  pub high : shift ≤ 2000
  pub short : size % 10 ≡ 0 → size ≡ 0

-- two numbers as multiples of one power of ten
pub record IsLeveled (one two : ℤ) (both : Leveled) : Type 0 where
  pub one_is : both.one *ℤ pos (10 ^ both.shift) ≡ one
  pub two_is : both.two *ℤ pos (10 ^ both.shift) ≡ two
  pub few : unsigned_abs both.one < 10 ^ 37
  pub few_too : unsigned_abs both.two < 10 ^ 37
  pub high : both.shift ≤ 2000
