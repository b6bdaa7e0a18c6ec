-- The law, at all files.
use Rattle.vm_part.proofs.OneBreak.{one_break_in_file}
use Rattle.vm_part.proofs.laws.bytes_break_at_one_place.Goals as goal

pub returns : goal.returns
returns c = one_break_in_file
