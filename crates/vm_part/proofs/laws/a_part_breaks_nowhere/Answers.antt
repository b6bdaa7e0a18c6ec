-- The law, at all bytes.
use Rattle.vm_part.proofs.Unbroken.{breaks_nowhere}
use Rattle.vm_part.proofs.laws.a_part_breaks_nowhere.Goals as goal

pub returns : goal.returns
returns c = breaks_nowhere
