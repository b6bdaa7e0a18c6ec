use Rattle.std.proofs.Common.{◌-◌, length, ◌∙◌, arith}
use Rattle.vm_index.proofs.ReadLaws.{rise_last}
use Rattle.vm_index.proofs.read.follows.Goals as goal

pub returns-in_default : goal.returns-in_default
returns-in_default c =
    c.lt.ensures
    ∙ rise_last c.args.sets.now (length c.args.sets.now - 1) c.index-sets-n.result
    c.args.set.now c.requires (omega arith) c.index-sets-n.is
