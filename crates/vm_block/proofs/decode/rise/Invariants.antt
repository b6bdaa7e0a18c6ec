use Rattle.std.proofs.Common.{◌≡◌, pos, drop}
use Rattle.vm_block.specs.Block.{rise_from}
use Rattle.vm_block.proofs.decode.rise.Given as goal

abbrev pub invariant-loop-time : goal.invariant-loop-time
invariant-loop-time l = rise_from l.last (drop l.time-index l.times) ≡ rise_from (pos 0) l.fn.times
