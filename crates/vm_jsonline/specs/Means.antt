-- What a line means, in the words of the grammar.
use Rattle.std.specs.Prelude.{◌≡◌, ℕ, ◌<◌, ◌≤◌, List, [], length, Option, Some, None, Result}
use Rattle.vm_base.specs.FirstWrong.{FirstWrong}
use Rattle.vm_decimal.specs.SampleText.{IsReader}
use Rattle.vm_decimal.specs.declared.sample_text.NumFault.{NumFault}
use Rattle.vm_decimal.specs.declared.sample_text.SampleText.{SampleText}
use Rattle.vm_labels.specs.declared.row.Row.{Row}
use Rattle.vm_json.specs.Grammar.{Json, Spells, IsJson, Spaces}
use Rattle.vm_jsonline.specs.Series.{outcome}
use Rattle.vm_jsonline.specs.declared.line.JsonLine.{JsonLine}
use Rattle.vm_jsonline.specs.declared.line.JsonLine.TheVariants.{Nothing, Rows, Skipped}

-- what a line of at most 4,194,304 bytes means, and that a longer one is skipped: white space alone
-- says nothing, and any other line that is no JSON is skipped where it goes wrong
pub data IsReading (line : List ℕ) : JsonLine → Type 0 where
  too_long : 4194304 < length line → IsReading line (Skipped 4194304)
  nothing : length line ≤ 4194304 → Spaces line [] → IsReading line Nothing
  broken : length line ≤ 4194304 → (Spaces line [] → ⊥) → (at : ℕ) → FirstWrong IsJson line at
      → IsReading line (Skipped at)
  written : length line ≤ 4194304 → (x : Json) → Spells line x
      → (read : List ℕ → Result SampleText NumFault) → IsReader read
      → IsReading line (outcome read x)

-- the rows of what a line means, none where it is skipped
abbrev pub rows_said : JsonLine → Option (List Row)
rows_said Nothing = Some []
rows_said (Rows rows) = Some rows
rows_said (Skipped at) = None

-- the line means these rows, or is skipped
abbrev pub MeansRows : List ℕ → Option (List Row) → Type 0
MeansRows line rows = (said : JsonLine) × IsReading line said × (rows ≡ rows_said said)
