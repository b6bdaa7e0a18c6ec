use Rattle.std.proofs.Common.{◌≡◌, ◌++◌, drop}
use Rattle.vm_index.specs.Numbers.{Rise, kept}
use Rattle.vm_index.proofs.numbers.put_kept.Given as goal

abbrev pub invariant-loop-n : goal.invariant-loop-n
invariant-loop-n l =
    (l.out.items ++ kept l.among l.rest (drop l.n-index l.a) ≡ l.initial.out.items
    ++ kept l.among l.b l.a) × Rise l.rest
