use Rattle.std.proofs.Common.{take}
use Rattle.vm_part.proofs.BuildLaws.{WrittenSoFar}
use Rattle.vm_part.proofs.build.put_blocks.Given as goal

abbrev pub invariant-loop-block : goal.invariant-loop-block
invariant-loop-block l = WrittenSoFar (take l.block-index l.block-items) l.fn.out.items l.out.items
