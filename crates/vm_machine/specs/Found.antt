-- The series that a question selects, each with its last sample in the window: what `Found` holds.
-- The machine's definitions don't cite it.
use Rattle.std.specs.Option.{option_map}
use Rattle.std.specs.Prelude.{List, Option, map}
use Rattle.vm_base.specs.declared.stamped.Stamped.{Stamped}
use Rattle.vm_labels.specs.declared.pair.Pair.{Pair}
use Rattle.vm_labels.specs.declared.row.Row.{Row}
use Rattle.vm_dedup.specs.Visible.{visible}
use Rattle.vm_machine.specs.Eval.{series, present, lookback}
use Rattle.vm_machine.specs.Window.{last_within}
use Rattle.vm_machine.specs.declared.question.Question.{Question}
use Rattle.vm_machine.specs.declared.question.Valued.{Valued}

-- the last sample of a series in the window
abbrev pub last_of_series : Question → List Row → List Pair → Option Stamped
last_of_series question rows labels = last_within question.time lookback (visible 0 labels rows)

-- each selected series with that
unfoldable pub found : Question → List Row → List (List Pair × Option Stamped)
found question rows =
    map (λ labels. (labels, last_of_series question rows labels)) (series question rows)

-- the value of a series, if it has a sample in the window
abbrev pub value_of_entry : (List Pair × Option Stamped) → Option Valued
value_of_entry entry = option_map (λ last. record { labels = entry.0; value = last.value }) entry.1

abbrev pub values_of : List (List Pair × Option Stamped) → List Valued
values_of entries = present (map value_of_entry entries)
