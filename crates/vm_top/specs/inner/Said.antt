-- What lines mean, as it is computed.
use Rattle.std.specs.Prelude.{ℕ, List, Option, map}
use Rattle.vm_jsonline.specs.Means.{rows_said}
use Rattle.vm_jsonline.specs.Reading.{reading as json_reading}
use Rattle.vm_labels.specs.declared.row.Row.{Row}
use Rattle.vm_promtext.specs.Means.{rows_of as rows_of_text}
use Rattle.vm_promtext.specs.Reading.{reading}
use Rattle.vm_script.specs.declared.command.Format.{Format}
use Rattle.vm_script.specs.declared.command.Format.TheVariants.{Prom, Json}
use Rattle.vm_top.specs.Rows.{or_none, rows_of}

-- the rows of a line of a format, none where it is skipped
abbrev pub format_rows : Format → ℕ → List ℕ → Option (List Row)
format_rows Prom now line = rows_of_text (reading now line)
format_rows Json now line = rows_said (json_reading line)

-- the rows of each line
abbrev pub said : Format → ℕ → List (List ℕ) → List (Option (List Row))
said format now lines = map (format_rows format now) lines

-- the rows of a line of text
abbrev pub line_rows : ℕ → List ℕ → List Row
line_rows now line = or_none (format_rows Prom now line)

-- the rows of lines of text
abbrev pub rows : ℕ → List (List ℕ) → List Row
rows now lines = rows_of (said Prom now lines)
