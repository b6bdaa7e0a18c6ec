-- What is seen of a series. (VictoriaMetrics, "Deduplication")
use Rattle.std.specs.Prelude.{ℕ, List, filter, map}
use Rattle.vm_base.specs.declared.stamped.Stamped.{Stamped}
use Rattle.vm_base.specs.Sorted.{sorted}
use Rattle.vm_base.specs.Stamped.{is_in_order}
use Rattle.vm_base.specs.Thinned.{thinned}
use Rattle.vm_labels.specs.Labels.{label_eq}
use Rattle.vm_labels.specs.declared.pair.Pair.{Pair}
use Rattle.vm_labels.specs.declared.row.Row.{Row}

-- the value of a row at its time
abbrev pub stamped : Row → Stamped
stamped row = record { time = row.time; value = row.value }

-- the samples of the rows with this label set
abbrev pub samples : List Pair → List Row → List Stamped
samples labels rows = map stamped (filter (λ row. label_eq labels row.labels) rows)

-- the samples of a label set in order of time, and of value at one time; of each interval of d ms
-- only the greatest, of equal ones one, and where d is 0 all
abbrev pub visible : ℕ → List Pair → List Row → List Stamped
visible d labels rows = thinned d (sorted is_in_order (samples labels rows))
