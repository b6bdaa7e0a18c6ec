-- Pieces of series in label order.
use Rattle.std.specs.Prelude.{◌≡◌, List, flat_map}
use Rattle.std.specs.List.{AllByRecursion}
use Rattle.vm_base.specs.Sorted.{IsUp}
use Rattle.vm_base.specs.declared.stamped.Stamped.{Stamped}
use Rattle.vm_labels.specs.Labels.{is_in_label_order}
use Rattle.vm_labels.specs.declared.pair.Pair.{Pair}
use Rattle.vm_series.specs.declared.series.Piece.{Piece}

-- each piece may stand before all that come after it
abbrev pub InLabelOrder : List Piece → Type 0
InLabelOrder = IsUp (λ a b. is_in_label_order a.labels.now b.labels.now)

-- each piece is of the label set
abbrev pub OfOneSet : List Pair → List Piece → Type 0
OfOneSet labels = AllByRecursion (λ piece. piece.labels.now ≡ labels)

-- the samples of pieces, one piece after the other
abbrev pub samples_of : List Piece → List Stamped
samples_of pieces = flat_map (λ piece. piece.samples.now) pieces
