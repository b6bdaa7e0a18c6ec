-- The texts of numbers.
use Rattle.std.specs.Prelude.{◌≡◌, ℕ, ◌+◌, ◌<◌, ◌⊎◌, ℤ, pos, ◌-ℤ◌, Bool, true, false, List, [], ◌++◌, length, codes}
use Rattle.std.specs.Char.{is_ascii_digit}
use Rattle.std.specs.List.{AllByRecursion}
use Rattle.std.specs.Str.Parse.{digits_value}
use Rattle.vm_base.specs.Number.{signed}

-- a number as a text spells it: `digits * 10^exponent`, or that below zero
pub record Spelled : Type 0 where
  pub negative : Bool
  pub digits : ℕ
  pub exponent : ℤ

-- ASCII digits alone
abbrev pub IsDigits : List ℕ → Type 0
IsDigits = AllByRecursion (λ b. is_ascii_digit b ≡ true)

-- `-`; or `+` or nothing
abbrev pub IsSign : Bool → List ℕ → Type 0
IsSign true text = text ≡ codes "-"
IsSign false text = (text ≡ codes "+") ⊎ (text ≡ [])

-- digits with an optional point among or beside them, at least one digit in all: what they write
-- without the point, and how many stand after it
pub record IsMantissa (text : List ℕ) (digits places : ℕ) : Type 0 where
  pub whole : List ℕ
  pub point : List ℕ
  pub fraction : List ℕ
  pub parts : text ≡ whole ++ (point ++ fraction)
  pub whole_digits : IsDigits whole
  pub fraction_digits : IsDigits fraction
  pub a_digit : 0 < length whole + length fraction
  pub one_point : (point ≡ codes ".") ⊎ ((point ≡ []) × (fraction ≡ []))
  pub digits_are : digits ≡ digits_value 10 (whole ++ fraction)
  pub places_are : places ≡ length fraction

-- `e` or `E`, an optional sign and digits
pub record IsExponent (text : List ℕ) (power : ℤ) : Type 0 where
  pub letter : List ℕ
  pub sign : List ℕ
  pub digits : List ℕ
  pub negative : Bool
  pub parts : text ≡ letter ++ (sign ++ digits)
  pub a_letter : (letter ≡ codes "e") ⊎ (letter ≡ codes "E")
  pub a_sign : IsSign negative sign
  pub all_digits : IsDigits digits
  pub a_digit : 0 < length digits
  pub power_is : power ≡ signed negative (digits_value 10 digits)

-- an exponent, or nothing, which is the exponent 0
abbrev pub IsOptionalExponent : List ℕ → ℤ → Type 0
IsOptionalExponent text power = ((text ≡ []) × (power ≡ pos 0)) ⊎ IsExponent text power

-- an optional sign, a mantissa and an optional exponent
pub record IsNumber (text : List ℕ) (spelled : Spelled) : Type 0 where
  pub sign : List ℕ
  pub mantissa : List ℕ
  pub exponent : List ℕ
  pub places : ℕ
  pub power : ℤ
  pub parts : text ≡ sign ++ (mantissa ++ exponent)
  pub a_sign : IsSign spelled.negative sign
  pub a_mantissa : IsMantissa mantissa spelled.digits places
  pub an_exponent : IsOptionalExponent exponent power
  pub exponent_is : spelled.exponent ≡ power -ℤ pos places

-- the number of some spelling
abbrev pub IsAnyNumber : List ℕ → Type 0
IsAnyNumber text = (spelled : Spelled) × IsNumber text spelled
