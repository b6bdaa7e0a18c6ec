use Rattle.std.proofs.Common.{◌≡◌, ◌++◌, drop}
use Rattle.vm_index.specs.Numbers.{Rise, merged}
use Rattle.vm_index.proofs.numbers.put_all.Given as goal

abbrev pub invariant-loop-n : goal.invariant-loop-n
invariant-loop-n l =
    (l.out.items ++ merged (drop l.n-index l.a) l.rest ≡ l.initial.out.items ++ merged l.a l.b)
    × Rise l.rest
