use Rattle.std.proofs.Common.{◌≡◌, ◌++◌, map, take, drop}
use Rattle.vm_machine.specs.Machine.{read_more}
use Rattle.vm_machine.proofs.run.count_read.Given as goal

abbrev pub invariant-loop-i : goal.invariant-loop-i
invariant-loop-i g l = l.runs.items ≡ map (read_more l.number) (take l.i l.fn.runs.items)
    ++ drop l.i l.fn.runs.items
