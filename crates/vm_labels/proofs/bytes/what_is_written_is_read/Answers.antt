use Rattle.vm_labels.proofs.ReadLaws.{set_again}
use Rattle.vm_labels.proofs.bytes.what_is_written_is_read.Goals as goal

pub returns : goal.returns
returns c = set_again
