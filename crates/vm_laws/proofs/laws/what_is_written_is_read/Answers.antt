use Rattle.vm_laws.proofs.PrintLaws.{read_again}
use Rattle.vm_laws.proofs.laws.what_is_written_is_read.Goals as goal

pub returns : goal.returns
returns c = read_again
