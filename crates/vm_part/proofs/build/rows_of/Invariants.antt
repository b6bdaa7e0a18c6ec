use Rattle.std.proofs.Common.{◌≡◌, take, sum_by}
use Rattle.vm_part.specs.declared.entry.Entry.{Entry}
use Rattle.vm_part.proofs.build.rows_of.Given as goal

abbrev pub invariant-loop-entry : goal.invariant-loop-entry
invariant-loop-entry l =
    l.rows ≡ sum_by (λ (entry : Entry). entry.rows) (take l.entry-index l.entries)
