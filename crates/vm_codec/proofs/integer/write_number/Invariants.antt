use Rattle.vm_codec.proofs.Written.{IsWritten}
use Rattle.vm_codec.proofs.integer.write_number.Given as goal

abbrev pub invariant-groups : goal.invariant-groups
invariant-groups l = IsWritten l.at l.end l.number l.left l.into l.initial.into

abbrev pub decreases-groups : goal.decreases-groups
decreases-groups l = l.left
