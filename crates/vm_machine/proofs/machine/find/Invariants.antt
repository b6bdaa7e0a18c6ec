use Rattle.std.proofs.Common.{◌≡◌, take}
use Rattle.vm_machine.specs.Found.{found}
use Rattle.vm_machine.specs.Machine.{rows_of}
use Rattle.vm_machine.proofs.machine.find.Given as goal

abbrev pub invariant-loop-batch : goal.invariant-loop-batch
invariant-loop-batch l = l.found ≡ found l.question (rows_of (take l.batch-index l.batches))
