use Rattle.std.proofs.Common.{◌≡◌, take, flat_map}
use Rattle.vm_series.specs.Series.{rows_of_piece}
use Rattle.vm_part.proofs.merging.pieces_of_rows.Given as goal

abbrev pub invariant-loop-at : goal.invariant-loop-at
invariant-loop-at l = flat_map rows_of_piece l.pieces.items ≡ take l.at l.batch
