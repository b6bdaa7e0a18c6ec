use Rattle.std.proofs.Common.{◌≡◌, ◌++◌, length, take, map}
use Rattle.std.specs.List.{concat}
use Rattle.std.specs.Int.{w64, to_be_bytes}
use Rattle.vm_index.proofs.bytes.put_numbers.Given as goal

abbrev pub invariant-loop-number : goal.invariant-loop-number
invariant-loop-number l = l.out.items ≡ l.fn.out.items
    ++ (to_be_bytes w64 (length l.numbers)
    ++ concat (map (to_be_bytes w64) (take l.number-index l.numbers)))
