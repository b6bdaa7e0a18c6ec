-- The rows that lines mean.
use Rattle.std.specs.Prelude.{ℕ, List, [], ◌∷◌, flat_map, Option, Some, None, ⊤}
use Rattle.vm_jsonline.specs.Means.{MeansRows as JsonMeansRows}
use Rattle.vm_labels.specs.declared.row.Row.{Row}
use Rattle.vm_promtext.specs.Means.{MeansRows}
use Rattle.vm_script.specs.declared.command.Format.{Format}
use Rattle.vm_script.specs.declared.command.Format.TheVariants.{Prom, Json}

-- a line of a format that is read at the time `now` means these rows, or is skipped
abbrev pub LineMeans : Format → ℕ → List ℕ → Option (List Row) → Type 0
LineMeans Prom now line rows = MeansRows now line rows
LineMeans Json now line rows = JsonMeansRows line rows

-- each line means the rows at its place
abbrev pub LinesMean : Format → ℕ → List (List ℕ) → List (Option (List Row)) → Type 0
LinesMean format now [] [] = ⊤
LinesMean format now (line ∷ lines) (rows ∷ said) = LineMeans format now line rows
    × LinesMean format now lines said
LinesMean format now _ _ = ⊥

-- the rows of a line, no row of one that is skipped
abbrev pub or_none : Option (List Row) → List Row
or_none None = []
or_none (Some rows) = rows

-- the rows of lines that mean this
abbrev pub rows_of : List (Option (List Row)) → List Row
rows_of said = flat_map or_none said
