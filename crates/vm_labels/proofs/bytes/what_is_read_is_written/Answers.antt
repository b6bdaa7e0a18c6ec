use Rattle.vm_labels.proofs.ReadLaws.{set_took}
use Rattle.vm_labels.proofs.bytes.what_is_read_is_written.Goals as goal

pub returns : goal.returns
returns c = set_took
