-- The law about bytes.
use Rattle.vm_block.proofs.Rereading.{one_writing}
use Rattle.vm_block.proofs.laws.samples_are_written_in_one_way.Goals as goal

pub returns : goal.returns
returns c = one_writing
