use Rattle.std.proofs.Common.{◌≡◌, ◌≤◌, length}
use Rattle.vm_index.proofs.ReadLaws.{Read}
use Rattle.vm_index.proofs.read.sets_of.Given as goal

abbrev pub invariant-loop : goal.invariant-loop
invariant-loop l = Read l.table l.sets l.at × (l.at ≤ length l.table) × (length l.sets ≡ l.counter)
