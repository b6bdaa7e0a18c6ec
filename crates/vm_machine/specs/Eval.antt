-- The answer to a question, over a list of rows. (MetricsQL, "instant query")
use Rattle.std.specs.Prelude.{ℕ, Bool, false, List, [], ◌∷◌, Option, Some, None, map}
use Rattle.std.specs.Option.{option_map}
use Rattle.vm_labels.specs.Selected.{selected}
use Rattle.vm_labels.specs.declared.pair.Pair.{Pair}
use Rattle.vm_labels.specs.declared.row.Row.{Row}
use Rattle.vm_dedup.specs.Visible.{visible}
use Rattle.vm_machine.specs.Machine.{Meaning}
use Rattle.vm_machine.specs.Window.{default_rollup}
use Rattle.vm_machine.specs.declared.question.Evaluated.{Evaluated}
use Rattle.vm_machine.specs.declared.question.Question.{Question}
use Rattle.vm_machine.specs.declared.question.Valued.{Valued}

-- how far back an instant query looks for a sample, in ms
abbrev pub lookback : ℕ
lookback = 300000

-- Which values a pattern matches as a whole. No question has a pattern yet.
abbrev pub no_pattern : List ℕ → List ℕ → Bool
no_pattern pattern value = false

-- the label sets of the rows that a question selects, in order and each once
abbrev pub series : Question → List Row → List (List Pair)
series question rows = selected no_pattern question.selector (map (λ row. row.labels) rows)

-- those that are there
abbrev pub present : {A : Type 0} → List (Option A) → List A
present [] = []
present (None ∷ more) = present more
present (Some a ∷ more) = a ∷ present more

-- the value of a series at the question's time, if it has one there
abbrev pub valued : ℕ → Question → List Row → List Pair → Option Valued
valued d question rows labels =
    option_map (λ value. record { labels = labels; value = value })
    (default_rollup question.time lookback (visible d labels rows))

-- each selected series that has a value at the question's time, with that value
abbrev pub eval : ℕ → Question → List Row → List Valued
eval d question rows = present (map (valued d question rows) (series question rows))

-- what the questions of instant queries mean: each comes to its time with these values
abbrev pub instant : Meaning Question Evaluated
instant = record {
  selects = series;
  comes_to = λ d question rows. record { time = question.time; values = eval d question rows };
}
