-- The law about tables.
use Rattle.vm_index.proofs.TableLaws.{one_place}
use Rattle.vm_index.proofs.laws.a_table_breaks_at_one_place.Goals as goal

pub returns : goal.returns
returns c = one_place
