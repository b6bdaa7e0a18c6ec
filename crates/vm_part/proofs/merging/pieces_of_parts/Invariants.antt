use Rattle.std.proofs.Common.{◌≡◌, take, map, flat_map, List}
use Rattle.std.specs.List.{AllZip}
use Rattle.vm_series.specs.Series.{rows_of_piece}
use Rattle.vm_part.specs.Part.{Stored, samples_of}
use Rattle.vm_part.specs.Said.{rows_in}
use Rattle.vm_part.specs.Said.{SaysAll}
use Rattle.vm_part.proofs.merging.pieces_of_parts.Given as goal

abbrev pub invariant-loop-at : goal.invariant-loop-at
invariant-loop-at l =
    (alls : List (List Stored)) → AllZip SaysAll (map (λ part. part.value) l.parts) alls
    → l.read ≡ map (map samples_of) alls
    → flat_map rows_of_piece l.pieces.items ≡ flat_map rows_in (take l.at alls)
