use Rattle.std.proofs.Common.{arith}
use Rattle.std.proofs.lemmas.Grind.{common_steps}
use Rattle.vm_outside.proofs.Streams.{takes_next}
use Rattle.vm_outside.proofs.writing.write_all.Goals as goal

-- what was taken, and then what this call took, are the first bytes up to the new place
pub loop-done-preserved : goal.loop-done-preserved
loop-done-preserved g c = record {
  within = grind (arith, common_steps, c.in_ok-taken.ensures.within);
  moved = takes_next _ _ _ _ _ _ c.loop-done.invariant.moved c.in_ok-taken.ensures.moved;
  counted = omega (arith, c.loop-done.invariant.counted, c.in_ok-taken.ensures.counted);
}
