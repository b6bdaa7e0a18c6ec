-- The law, at all headers and bodies.
use Rattle.vm_block.proofs.Blocks.{one_break}
use Rattle.vm_block.proofs.laws.a_block_breaks_at_one_place.Goals as goal

pub returns : goal.returns
returns c = one_break
