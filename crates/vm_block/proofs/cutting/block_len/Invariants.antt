use Rattle.std.proofs.Common.{take}
use Rattle.vm_block.specs.Block.{values_of}
use Rattle.vm_block.specs.inner.Reading.{IsShared}
use Rattle.vm_block.proofs.cutting.block_len.Given as goal

abbrev pub invariant-loop-place : goal.invariant-loop-place
invariant-loop-place l = IsShared (values_of (take l.place l.samples)) l.shared
