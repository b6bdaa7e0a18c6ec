-- What lines mean is what is computed, and nothing else.
use Rattle.std.proofs.Common.{◌≡◌, ℕ, List, [], ◌∷◌, Option, refl, ap, ◌∙◌}
use Rattle.vm_jsonline.specs.Means.{rows_said}
use Rattle.vm_jsonline.specs.Reading.{reading as json_reading}
use Rattle.vm_jsonline.proofs.LineLaws.{reading_is as json_reading_is, one_reading as one_json_reading}
use Rattle.vm_labels.specs.declared.row.Row.{Row}
use Rattle.vm_promtext.specs.Means.{rows_of as rows_of_text}
use Rattle.vm_promtext.specs.Reading.{reading}
use Rattle.vm_promtext.proofs.LineLaws.{reading_is, one_reading}
use Rattle.vm_script.specs.declared.command.Format.{Format}
use Rattle.vm_script.specs.declared.command.Format.TheVariants.{Prom, Json}
use Rattle.vm_top.specs.Rows.{LineMeans, LinesMean}
use Rattle.vm_top.specs.inner.Said.{format_rows, said}

pub line_means : (format : Format) (now : ℕ) (line : List ℕ)
    → LineMeans format now line (format_rows format now line)
line_means Prom now line = (reading now line, reading_is now line, refl)
line_means Json now line = (json_reading line, json_reading_is line, refl)

-- each line means what is computed
pub lines_mean : (format : Format) (now : ℕ) (lines : List (List ℕ))
    → LinesMean format now lines (said format now lines)
lines_mean format now [] = tt
lines_mean format now (line ∷ lines) = (line_means format now line, lines_mean format now lines)

one_line : (format : Format) (now : ℕ) (line : List ℕ) (rows : Option (List Row))
    → LineMeans format now line rows
    → rows ≡ format_rows format now line
one_line Prom now line rows means = means.2 ∙ ap rows_of_text (one_reading now line means.0 means.1)
one_line Json now line rows means = means.2 ∙ ap rows_said (one_json_reading line means.0 means.1)

-- lines mean one thing
pub lines_mean_one :
    (format : Format) (now : ℕ) (lines : List (List ℕ)) (means : List (Option (List Row)))
    → LinesMean format now lines means → means ≡ said format now lines
lines_mean_one format now [] [] is = refl
lines_mean_one format now [] (rows ∷ means) is = absurd is
lines_mean_one format now (line ∷ lines) [] is = absurd is
lines_mean_one format now (line ∷ lines) (rows ∷ means) is =
    ap (λ first. first ∷ means) (one_line format now line rows is.0)
    ∙ ap (λ more. format_rows format now line ∷ more) (lines_mean_one format now lines means is.1)
