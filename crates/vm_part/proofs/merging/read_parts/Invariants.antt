use Rattle.std.proofs.Common.{take, map}
use Rattle.vm_part.specs.inner.Merging.{AreRead}
use Rattle.vm_part.proofs.merging.read_parts.Given as goal

abbrev pub invariant-loop-part : goal.invariant-loop-part
invariant-loop-part l = AreRead (map (λ part. part.value) (take l.part-index l.parts)) l.read
