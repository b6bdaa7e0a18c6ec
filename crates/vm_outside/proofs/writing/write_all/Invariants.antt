use Rattle.std.proofs.Common.{◌-◌, ◌≤◌, length, take}
use Rattle.vm_outside.specs.Outside.{Takes}
use Rattle.vm_outside.proofs.writing.write_all.Given as goal

-- the first `done` bytes were taken
abbrev pub invariant-loop-done : goal.invariant-loop-done
invariant-loop-done g l = record {
  within : l.done ≤ length l.bytes;
  moved : Takes (g.K.Sink.taken l.initial.sink) (take l.done l.bytes) (g.K.Sink.taken l.sink);
  counted : g.K.Sink.faults l.initial.sink ≤ g.K.Sink.faults l.sink;
}

abbrev pub decreases-loop-done : goal.decreases-loop-done
decreases-loop-done g l = length l.bytes - l.done
