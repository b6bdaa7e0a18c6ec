use Rattle.std.proofs.Common.{take}
use Rattle.vm_part.specs.inner.Making.{ArePut}
use Rattle.vm_part.proofs.build.put_series.Given as goal

abbrev pub invariant-loop-one : goal.invariant-loop-one
invariant-loop-one l = ArePut (take l.one-index l.series) l.fn.out.items l.out.items l.entries
