use Rattle.std.proofs.Common.{◌≡◌, ◌++◌}
use Rattle.std.specs.Vec.Iter.{into_iter_items}
use Rattle.vm_top.specs.Replay.{Accepts}
use Rattle.vm_top.proofs.act.import_all.Given as goal

abbrev pub invariant-loop-batch : goal.invariant-loop-batch
invariant-loop-batch l = record {
  items : l.yielded ++ into_iter_items l.batch-iterator ≡ l.fn.batches;
  accepts : Accepts l.fn.machine l.yielded l.machine;
}
