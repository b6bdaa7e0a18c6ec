-- The law about lists, at this header and body.
use Rattle.vm_block.proofs.Blocks.{one_block}
use Rattle.vm_block.proofs.laws.a_block_says_one_list.Goals as goal

pub returns : goal.returns
returns c = one_block c.args.header.now c.args.body.now
