-- What the text of a number says.
use Rattle.std.specs.Prelude.{◌≡◌, ℕ, ℤ, List, Option, Some, None, Result, Ok, Err}
use Rattle.vm_base.specs.Number.{signed}
use Rattle.vm_decimal.specs.Dec.{dec_of}
use Rattle.vm_decimal.specs.Spelled.{Spelled, IsNumber}
use Rattle.vm_decimal.specs.SampleReading.{number_reading}
use Rattle.vm_decimal.specs.declared.sample_text.NumFault.{NumFault}
use Rattle.vm_decimal.specs.declared.sample_text.NumFault.TheVariants.{NotANumber, TooWide}

-- the number that is spelled, none where it is out of range
abbrev pub dec_value : Spelled → Option ℤ
dec_value s = dec_of (signed s.negative s.digits) s.exponent

-- the text writes this number, or one that is out of range
abbrev pub SaysNumber : List ℕ → ℤ → Type 0
SaysNumber text z = (spelled : Spelled) × IsNumber text spelled × (dec_value spelled ≡ Some z)

abbrev pub IsBeyond : List ℕ → Type 0
IsBeyond text = (spelled : Spelled) × IsNumber text spelled × (dec_value spelled ≡ None)

-- the same as it is computed: the number, or that it is out of range
abbrev pub or_too_wide : Option ℤ → Result ℤ NumFault
or_too_wide (Some z) = Ok z
or_too_wide None = Err TooWide

-- the number that was read, or the place where the text is none
abbrev pub dec_valued : Result Spelled ℕ → Result ℤ NumFault
dec_valued (Ok spelled) = or_too_wide (dec_value spelled)
dec_valued (Err at) = Err (NotANumber at)

-- what a text says
unfoldable pub dec_reading : List ℕ → Result ℤ NumFault
dec_reading text = dec_valued (number_reading text)
