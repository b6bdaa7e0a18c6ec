use Rattle.std.proofs.Common.{◌≡◌, ◌∷◌, length, drop, map}
use Rattle.std.specs.Int.{w64, to_be_bytes}
use Rattle.vm_index.specs.Reading.{behind_all}
use Rattle.vm_index.proofs.read.behind_numbers.Given as goal

abbrev pub invariant-loop-number : goal.invariant-loop-number
invariant-loop-number l =
    behind_all (map (to_be_bytes w64) (drop l.number-index l.numbers)) l.rest
    ≡ behind_all (to_be_bytes w64 (length l.numbers) ∷ map (to_be_bytes w64) l.numbers) l.bytes
