-- What the text of a sample's value says.
use Rattle.std.specs.Prelude.{◌≡◌, ℕ, ◌⊎◌, ℤ, List, Option, Some, None, Result, Ok, Err}
use Rattle.vm_base.specs.FirstWrong.{FirstWrong}
use Rattle.vm_decimal.specs.Spelled.{Spelled, IsNumber, IsAnyNumber}
use Rattle.vm_decimal.specs.Rounded.{sample_value}
use Rattle.vm_decimal.specs.Words.{IsNoNumber}
use Rattle.vm_decimal.specs.declared.sample_text.SampleText.{SampleText}
use Rattle.vm_decimal.specs.declared.sample_text.SampleText.TheVariants.{Value, NoNumber}
use Rattle.vm_decimal.specs.declared.sample_text.NumFault.{NumFault}
use Rattle.vm_decimal.specs.declared.sample_text.NumFault.TheVariants.{NotANumber, TooWide}

-- the text of a number, or one that says that there is none
abbrev pub IsSampleText : List ℕ → Type 0
IsSampleText text = IsAnyNumber text ⊎ IsNoNumber text

-- the text writes a number that is rounded to this sample
abbrev pub SaysValue : List ℕ → ℤ → Type 0
SaysValue text z = (spelled : Spelled) × IsNumber text spelled × (sample_value spelled ≡ Some z)

-- it writes a number that no sample can have
abbrev pub IsTooWide : List ℕ → Type 0
IsTooWide text = (spelled : Spelled) × IsNumber text spelled × (sample_value spelled ≡ None)

-- the text says this of a value
abbrev pub Says : List ℕ → Result SampleText NumFault → Type 0
Says text (Ok (Value z)) = SaysValue text z
Says text (Ok NoNumber) = IsNoNumber text
Says text (Err TooWide) = IsTooWide text
Says text (Err (NotANumber at)) = FirstWrong IsSampleText text at

-- f reads each text as what it says
abbrev pub IsReader : (List ℕ → Result SampleText NumFault) → Type 0
IsReader f = (text : List ℕ) → Says text (f text)
