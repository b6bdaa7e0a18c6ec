use Rattle.std.proofs.Common.{◌≡◌, drop}
use Rattle.vm_block.specs.Block.{lesser, least_shift, values_of}
use Rattle.vm_block.specs.inner.Reading.{InShifts}
use Rattle.vm_block.proofs.samples.common_shift.Given as goal

abbrev pub invariant-loop-sample : goal.invariant-loop-sample
invariant-loop-sample l = record {
  least : lesser l.least (least_shift (values_of (drop l.sample-index l.samples)))
      ≡ least_shift (values_of l.fn.samples);
  range : InShifts l.least;
}
