-- A sample of a row that comes to what was found of the series.
use Rattle.std.specs.BTreeMap.{is_at}
use Rattle.std.specs.Map.{lookup}
use Rattle.std.specs.Ordering.{is_eq}
use Rattle.std.specs.Prelude.{◌≡◌, ℕ, List, Option, Some, None, if◌then◌else◌}
use Rattle.vm_base.specs.declared.stamped.Stamped.{Stamped}
use Rattle.vm_base.specs.Sorted.{later}
use Rattle.vm_base.specs.Stamped.{is_in_order}
use Rattle.vm_labels.specs.Labels.{label_cmp}
use Rattle.vm_labels.specs.declared.pair.Pair.{Pair}
use Rattle.vm_labels.specs.declared.row.Row.{Row}
use Rattle.vm_dedup.specs.Visible.{stamped}
use Rattle.vm_machine.specs.Eval.{lookback}
use Rattle.vm_machine.specs.Window.{is_within}

-- the sample of a row, if it lies in the window
abbrev pub sample_within : ℕ → Row → Option Stamped
sample_within time row = if is_within time lookback (stamped row) then Some (stamped row) else None

-- what stands at a series
abbrev pub at : List (List Pair × Option Stamped) → List Pair → Option (Option Stamped)
at entries labels = lookup (is_at (label_cmp labels)) entries

-- the sample that stands there, if any does
abbrev pub sample_at : Option (Option Stamped) → Option Stamped
sample_at None = None
sample_at (Some last) = last

-- a sample came to a series, and nothing else changed
abbrev pub IsPut : List (List Pair × Option Stamped) → List Pair → Option Stamped
    → List (List Pair × Option Stamped) → Type 0
IsPut before labels here now =
    (q : List Pair) → at now q
    ≡ (if is_eq (label_cmp labels q)
    then Some (later is_in_order (sample_at (at before labels)) here) else at before q)
