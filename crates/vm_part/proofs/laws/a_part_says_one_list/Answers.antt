-- The law, at all bytes.
use Rattle.vm_part.proofs.OnePart.{one_part}
use Rattle.vm_part.proofs.laws.a_part_says_one_list.Goals as goal

pub returns : goal.returns
returns c = one_part
