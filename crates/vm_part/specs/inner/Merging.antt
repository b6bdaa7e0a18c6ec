-- What is read of parts that are merged.
use Rattle.std.specs.Prelude.{◌≡◌, List, [], ◌∷◌, ◌++◌, map}
use Rattle.std.specs.List.{AllZip}
use Rattle.vm_base.specs.declared.stamped.Stamped.{Stamped}
use Rattle.vm_labels.specs.declared.pair.Pair.{Pair}
use Rattle.vm_labels.specs.declared.row.Row.{Row}
use Rattle.vm_series.specs.Series.{row_of}
use Rattle.vm_part.specs.Part.{Stored, samples_of}
use Rattle.vm_part.specs.Said.{Kept, SaysAll}

-- each part holds the series beside it, and these are the samples of all series of each
pub record AreRead (parts : List Kept) (read : List (List (List Stamped))) : Type 0 where
  pub alls : List (List Stored)
  pub said : AllZip SaysAll parts alls
  pub samples : read ≡ map (map samples_of) alls

-- the rows of label sets with the samples beside each
abbrev pub rows_beside : List (List Pair) → List (List Stamped) → List Row
rows_beside [] samples = []
rows_beside (set ∷ sets) [] = []
rows_beside (set ∷ sets) (some ∷ more) = map (row_of set) some ++ rows_beside sets more
