use Rattle.vm_labels.proofs.ReadLaws.{one_spelling}
use Rattle.vm_labels.proofs.bytes.no_set_begins_another.Goals as goal

pub returns : goal.returns
returns c = one_spelling
