use Rattle.std.proofs.Common.{◌≡◌, ◌++◌, List, take}
use Rattle.vm_labels.specs.declared.row.Row.{Row}
use Rattle.vm_machine.specs.Found.{found}
use Rattle.vm_machine.proofs.machine.add_all.Given as goal

abbrev pub invariant-loop-row : goal.invariant-loop-row
invariant-loop-row l = (before : List Row) → l.fn.found ≡ found l.question before
    → l.found ≡ found l.question (before ++ take l.row-index l.rows)
