use Rattle.std.proofs.Common.{◌≡◌, ◌++◌, map, take, drop, string_bytes}
use Rattle.vm_top.specs.Words.{positional}
use Rattle.vm_top.proofs.words.positional.Given as goal

abbrev pub invariant-loop-i : goal.invariant-loop-i
invariant-loop-i l = positional (map string_bytes l.words) ≡ map string_bytes (take l.i l.words)
    ++ positional (map string_bytes (drop l.i l.words))
