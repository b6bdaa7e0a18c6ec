-- The law about bytes, at this header.
use Rattle.vm_block.proofs.Rereading.{written_is_read}
use Rattle.vm_block.proofs.laws.what_is_written_is_read.Goals as goal

pub returns : goal.returns
returns c = written_is_read c.args.header.now
