-- What the text of a sample's value says, as it is computed. That this is what the grammar says is
-- proved.
use Rattle.std.specs.Prelude.{ℕ, max, ℤ, List, Option, Some, None, Result, Ok, Err}
use Rattle.vm_base.specs.Run.{reading}
use Rattle.vm_decimal.specs.Spelled.{Spelled}
use Rattle.vm_decimal.specs.NumberMachine.{step, final, start}
use Rattle.vm_decimal.specs.Rounded.{sample_value}
use Rattle.vm_decimal.specs.WordPlaces.{wrong_among}
use Rattle.vm_decimal.specs.Words.{no_numbers}
use Rattle.vm_decimal.specs.declared.sample_text.SampleText.{SampleText}
use Rattle.vm_decimal.specs.declared.sample_text.SampleText.TheVariants.{Value, NoNumber}
use Rattle.vm_decimal.specs.declared.sample_text.NumFault.{NumFault}
use Rattle.vm_decimal.specs.declared.sample_text.NumFault.TheVariants.{NotANumber, TooWide}

-- the number of a text, or the place where it is none
abbrev pub number_reading : List ℕ → Result Spelled ℕ
number_reading text = reading step final start text

-- the sample of a number that was read
abbrev pub valued : Result Spelled ℕ → Result (Option ℤ) ℕ
valued (Ok spelled) = Ok (sample_value spelled)
valued (Err at) = Err at

-- a text that is a number up to this place, by where it leaves the words for no number
abbrev pub no_number_reading : ℕ → Option ℕ → Result SampleText NumFault
no_number_reading at None = Ok NoNumber
no_number_reading at (Some far) = Err (NotANumber (max at far))

-- what a text says, by the sample of its number or the place where it is none
abbrev pub value_reading : List ℕ → Result (Option ℤ) ℕ → Result SampleText NumFault
value_reading text (Ok (Some z)) = Ok (Value z)
value_reading text (Ok None) = Err TooWide
value_reading text (Err at) = no_number_reading at (wrong_among no_numbers text)

-- what a text says of a sample's value
unfoldable pub sample_reading : List ℕ → Result SampleText NumFault
sample_reading text = value_reading text (valued (number_reading text))
