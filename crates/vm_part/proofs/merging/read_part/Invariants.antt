use Rattle.std.proofs.Common.{◌≡◌, take, map, List}
use Rattle.vm_part.specs.Part.{IsPart, Stored, entries_of, samples_of}
use Rattle.vm_part.proofs.merging.read_part.Given as goal

abbrev pub invariant-loop-ordinal : goal.invariant-loop-ordinal
invariant-loop-ordinal l =
    (all : List Stored) → IsPart l.part.bytes all → l.part.entries ≡ entries_of all
    → l.read ≡ take l.ordinal (map samples_of all)
