-- The law about lists, at these samples.
use Rattle.vm_block.proofs.OneCut.{one_cut}
use Rattle.vm_block.proofs.laws.samples_have_one_cut.Goals as goal

pub returns : goal.returns
returns c = one_cut c.args.samples.now
