use Rattle.vm_part.proofs.BuildLaws.{entry_said}
use Rattle.vm_part.proofs.build.entry_for.Goals as goal

pub returns : goal.returns
returns c =
    entry_said c.args.start c.args.blocks c.args.samples.now c.index-samples-0.result
    c.index-samples-samples.result c.requires
