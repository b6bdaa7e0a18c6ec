-- The series of rows: each label set among them once, in order, with what is seen of it.
use Rattle.std.specs.Prelude.{◌≡◌, ℕ, ◌<◌, List, length, map, flat_map}
use Rattle.std.specs.List.{AllByRecursion, dedup}
use Rattle.vm_base.specs.Sorted.{IsUp, sorted}
use Rattle.vm_base.specs.Stamped.{is_in_order}
use Rattle.vm_base.specs.declared.stamped.Stamped.{Stamped}
use Rattle.vm_dedup.specs.Visible.{samples, visible}
use Rattle.vm_index.specs.Index.{SetsRise}
use Rattle.vm_labels.specs.Labels.{is_in_label_order, label_eq}
use Rattle.vm_labels.specs.declared.pair.Pair.{Pair}
use Rattle.vm_labels.specs.declared.row.Row.{Row}
use Rattle.vm_series.specs.declared.series.Piece.{Piece}
use Rattle.vm_series.specs.declared.series.Series.{Series}

-- ---- the series of rows

-- the label sets among rows, in order and each once
abbrev pub sets_among : List Row → List (List Pair)
sets_among rows = dedup label_eq (sorted is_in_label_order (map (λ row. row.labels) rows))

-- a label set with what is seen of it among rows, where the samples of an interval of d ms become
-- one
abbrev pub series_among : ℕ → List Row → List Pair → Series
series_among d rows labels = record { labels = labels; samples = visible d labels rows }

-- the series of rows
abbrev pub series_of : ℕ → List Row → List Series
series_of d rows = map (series_among d rows) (sets_among rows)

-- ---- the rows of series

-- a sample of a label set
abbrev pub row_of : List Pair → Stamped → Row
row_of labels sample = record { labels = labels; time = sample.time; value = sample.value }

-- each sample of a series, with the labels of the series
abbrev pub rows_of : Series → List Row
rows_of series = map (row_of series.labels) series.samples

-- each sample of a piece, with the labels of the piece
abbrev pub rows_of_piece : Piece → List Row
rows_of_piece piece = map (row_of piece.labels.now) piece.samples.now

-- ---- what a reader of series may expect

-- a series with a sample
abbrev pub HasSample : Series → Type 0
HasSample series = 0 < length series.samples

-- by time, and at one time by value
abbrev pub IsByTime : Series → Type 0
IsByTime series = IsUp is_in_order series.samples

-- the label sets rise, so none stands twice; no series is empty, and the samples of each are in
-- order
pub record AreSeries (all : List Series) : Type 0 where
  pub rising : SetsRise (map (λ series. series.labels) all)
  pub some : AllByRecursion HasSample all
  pub ordered : AllByRecursion IsByTime all

-- of each label set they have exactly what is seen of it among rows
abbrev pub HaveWhatIsSeen : ℕ → List Row → List Series → Type 0
HaveWhatIsSeen d rows all = (labels : List Pair)
    → samples labels (flat_map rows_of all) ≡ visible d labels rows
