-- How the rows of a body are parted into batches, which are imported as wholes.
use Rattle.std.specs.Prelude.{ℕ, ◌==◌, nat_le, sum_by, List, [], ◌∷◌, ◌++◌, length, if◌then◌else◌}
use Rattle.vm_labels.specs.declared.row.Row.{Row}
use Rattle.vm_labels.specs.declared.row.Batch.{Batch}

-- how many rows are enough
abbrev pub enough : ℕ
enough = 10000

-- the batches of lines that hold these rows, where rows of earlier lines are in hand: a batch ends
-- at the first line end at which it has enough rows, or at the body's end where it has a row
abbrev pub batches_from : List Row → List (List Row) → List Batch
batches_from held [] = if length held == 0 then [] else record { rows = held } ∷ []
batches_from held (line ∷ more) =
    if nat_le enough (length (held ++ line))
    then record { rows = held ++ line } ∷ batches_from [] more
    else batches_from (held ++ line) more

abbrev pub batches_of : List (List Row) → List Batch
batches_of lines = batches_from [] lines

-- how many rows batches have
abbrev pub row_count : List Batch → ℕ
row_count batches = sum_by (λ batch. length batch.rows) batches

-- batches that are whole, and the rows in hand for the next one
pub record Parted : Type 0 where
  pub whole : List Batch
  pub held : List Row

-- all batches, where these lines come behind
abbrev pub with_more : Parted → List (List Row) → List Batch
with_more parted more = parted.whole ++ batches_from parted.held more
