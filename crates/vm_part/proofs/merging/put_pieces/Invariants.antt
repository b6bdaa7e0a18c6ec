use Rattle.std.proofs.Common.{◌≡◌, ◌++◌, take, flat_map}
use Rattle.vm_series.specs.Series.{rows_of_piece}
use Rattle.vm_part.specs.inner.Merging.{rows_beside}
use Rattle.vm_part.proofs.merging.put_pieces.Given as goal

abbrev pub invariant-loop-at : goal.invariant-loop-at
invariant-loop-at l =
    flat_map rows_of_piece l.pieces.items
    ≡ flat_map rows_of_piece l.fn.pieces.items
    ++ rows_beside (take l.at l.sets) (take l.at l.samples)
