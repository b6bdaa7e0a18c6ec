-- What a line means, in the words of the grammar.
use Rattle.std.specs.Prelude.{◌≡◌, ℕ, ◌<◌, ◌≤◌, List, [], ◌∷◌, length, Option, Some, None, Result}
use Rattle.vm_base.specs.FirstWrong.{FirstWrong}
use Rattle.vm_decimal.specs.SampleText.{Says}
use Rattle.vm_decimal.specs.declared.sample_text.NumFault.{NumFault}
use Rattle.vm_decimal.specs.declared.sample_text.SampleText.{SampleText}
use Rattle.vm_labels.specs.declared.row.Row.{Row as RowOf}
use Rattle.vm_promtext.specs.Grammar.{Written, Writes, SaysNothing, IsLine}
use Rattle.vm_promtext.specs.Outcome.{outcome}
use Rattle.vm_promtext.specs.declared.line.Line.{Line}
use Rattle.vm_promtext.specs.declared.line.Line.TheVariants.{Nothing, Row, NoNumber, Skipped}

-- What a line means that is read at the time `now`. A line of more than 4,194,304 bytes is skipped.
pub data IsReading (now : ℕ) (line : List ℕ) : Line → Type 0 where
  too_long : 4194304 < length line → IsReading now line (Skipped 4194304)
  nothing : length line ≤ 4194304 → SaysNothing line → IsReading now line Nothing
  broken : length line ≤ 4194304 → (at : ℕ) → FirstWrong IsLine line at
      → IsReading now line (Skipped at)
  written : length line ≤ 4194304 → (parts : Written) → Writes line parts
      → (said : Result SampleText NumFault) → Says parts.value said
      → IsReading now line (outcome now line parts said)

-- the rows of what a line means, none where it is skipped
abbrev pub rows_of : Line → Option (List RowOf)
rows_of Nothing = Some []
rows_of (Row row) = Some (row ∷ [])
rows_of NoNumber = Some []
rows_of (Skipped at) = None

-- the line means these rows where it is read at the time `now`, or is skipped
abbrev pub MeansRows : ℕ → List ℕ → Option (List RowOf) → Type 0
MeansRows now line rows = (said : Line) × IsReading now line said × (rows ≡ rows_of said)
