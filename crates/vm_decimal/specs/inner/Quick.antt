-- What the fast way finds. Only inner contracts cite it.
use Rattle.std.specs.Prelude.{◌≡◌, ℕ, ◌<◌, ◌≤◌, ◌^◌, ℤ, pos, ◌-ℤ◌, unsigned_abs, Bool, List, ◌++◌, length, take}
use Rattle.std.specs.Str.Parse.{digits_value}
use Rattle.vm_base.specs.Number.{signed}
use Rattle.vm_decimal.specs.Spelled.{Spelled, IsDigits, IsSign, IsMantissa, IsOptionalExponent, IsNumber}
use Rattle.vm_decimal.specs.declared.quick.QuickNumber.{QuickNumber}

-- a mantissa of at most 38 digits
pub record IsQuick (text : List ℕ) (size places : ℕ) : Type 0 where
  pub mantissa : IsMantissa text size places
  pub few : size < 10 ^ 38
  pub near : places ≤ 38

-- the same at the front of a text
pub record BeginsQuick (text : List ℕ) (size places len : ℕ) : Type 0 where
  pub within : len ≤ length text
  pub is : IsQuick (take len text) size places

-- a text with a sign in front of a rest
pub record IsSignedBy (text : List ℕ) (negative : Bool) (rest : List ℕ) : Type 0 where
  pub sign : List ℕ
  pub parts : text ≡ sign ++ rest
  pub a_sign : IsSign negative sign

-- 1 to 4 digits
pub record FewDigits (text : List ℕ) (size : ℕ) : Type 0 where
  pub some : 0 < length text
  pub all : IsDigits text
  pub is : size ≡ digits_value 10 text
  pub few : size < 10 ^ 4

-- the same with a sign
pub record SignedPower (text : List ℕ) (power : ℤ) : Type 0 where
  pub sign : List ℕ
  pub digits : List ℕ
  pub negative : Bool
  pub size : ℕ
  pub parts : text ≡ sign ++ digits
  pub a_sign : IsSign negative sign
  pub are_few : FewDigits digits size
  pub is : power ≡ signed negative size

-- an exponent of these, or nothing
pub record QuickPower (text : List ℕ) (power : ℤ) : Type 0 where
  pub is : IsOptionalExponent text power
  pub few : unsigned_abs power < 10 ^ 4

-- a number of these
pub record QuickValue (negative : Bool) (text : List ℕ) (n : QuickNumber) : Type 0 where
  pub size : ℕ
  pub places : ℕ
  pub len : ℕ
  pub power : ℤ
  pub rest : List ℕ
  pub parts : text ≡ take len text ++ rest
  pub mantissa : IsQuick (take len text) size places
  pub exponent : IsOptionalExponent rest power
  pub near : unsigned_abs power < 10 ^ 4
  pub mantissa_is : n.mantissa ≡ signed negative size
  pub exponent_is : n.exponent ≡ power -ℤ pos places

-- the text spells this number
pub record SpellsQuick (text : List ℕ) (n : QuickNumber) : Type 0 where
  pub spelled : Spelled
  pub is : IsNumber text spelled
  pub mantissa_is : n.mantissa ≡ signed spelled.negative spelled.digits
  pub exponent_is : n.exponent ≡ spelled.exponent
  pub near : unsigned_abs n.exponent < 2 ^ 15
