use Rattle.vm_codec.proofs.Written.{IsCounted}
use Rattle.vm_codec.proofs.integer.number_len.Given as goal

abbrev pub invariant-groups : goal.invariant-groups
invariant-groups l = IsCounted l.len l.left l.number

abbrev pub decreases-groups : goal.decreases-groups
decreases-groups l = l.left
