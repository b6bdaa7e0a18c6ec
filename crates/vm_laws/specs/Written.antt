-- That a series that is written as a line is read again.
use Rattle.std.specs.Prelude.{◌≡◌, ◌<◌, ◌≤◌, ◌^◌, List, length, map, None, true, IsUtf8}
use Rattle.std.specs.List.{AllByRecursion}
use Rattle.vm_base.specs.Sample.{is_sample}
use Rattle.vm_base.specs.declared.stamped.Stamped.{Stamped}
use Rattle.vm_labels.specs.declared.pair.Pair.{Pair}
use Rattle.vm_labels.specs.Labels.{IsLabels, limit_of}
use Rattle.vm_labels.specs.declared.row.Row.{Row}
use Rattle.vm_jsonline.specs.Print.{series_text}
use Rattle.vm_jsonline.specs.Reading.{reading}
use Rattle.vm_jsonline.specs.declared.line.JsonLine.{JsonLine}
use Rattle.vm_jsonline.specs.declared.line.JsonLine.TheVariants.{Rows}

-- its value is one that a `Sample` can have
abbrev pub IsOfSample : Stamped → Type 0
IsOfSample s = is_sample s.value ≡ true

-- a label set within the limits of an import, of UTF-8, and samples within theirs, in a line that
-- isn't too long
pub record CanBeRead (labels : List Pair) (samples : List Stamped) : Type 0 where
  pub label_set : IsLabels labels
  pub limits : limit_of labels ≡ None
  pub texts : AllByRecursion (λ p. IsUtf8 p.value) labels
  pub values : AllByRecursion IsOfSample samples
  pub times : AllByRecursion (λ s. s.time < 2 ^ 48) samples
  pub short : length (series_text labels samples) ≤ 4194304

-- the row of a sample
abbrev pub row_of : List Pair → Stamped → Row
row_of labels s = record { labels = labels; time = s.time; value = s.value }

-- the rows of a series, as a line says them
abbrev pub rows_again : List Pair → List Stamped → JsonLine
rows_again labels samples = Rows (map (row_of labels) samples)

-- what is written is read again as its rows
abbrev pub WrittenIsRead : Type 0
WrittenIsRead =
    (labels : List Pair) (samples : List Stamped) → CanBeRead labels samples
    → reading (series_text labels samples) ≡ rows_again labels samples
