use Rattle.std.proofs.Common.{◌≡◌, take}
use Rattle.vm_block.specs.Block.{times_of}
use Rattle.vm_block.proofs.encode.stamps.Given as goal

abbrev pub invariant-loop-sample : goal.invariant-loop-sample
invariant-loop-sample l = l.stamps.items ≡ times_of (take l.sample-index l.samples)
