use Rattle.std.proofs.Common.{take}
use Rattle.vm_block.specs.inner.Reading.{AreStamped}
use Rattle.vm_block.proofs.decode.stamp.Given as goal

abbrev pub invariant-loop-place : goal.invariant-loop-place
invariant-loop-place l =
    AreStamped l.exponent (take l.place l.times) (take l.place l.mantissas) l.samples.items
