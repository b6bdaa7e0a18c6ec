-- The last sample.
use Rattle.vm_part.proofs.BlockLaws.{last_read}
use Rattle.vm_part.proofs.blocks.see.Goals as goal

pub returns-clause-last : goal.returns-clause-last
returns-clause-last c =
    last_read c.args.samples.now c.index-samples-samples.result c.requires.some
    c.index-samples-samples.is
