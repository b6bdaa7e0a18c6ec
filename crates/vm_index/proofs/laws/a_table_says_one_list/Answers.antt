-- The law about tables.
use Rattle.vm_index.proofs.TableLaws.{one_table}
use Rattle.vm_index.proofs.laws.a_table_says_one_list.Goals as goal

pub returns : goal.returns
returns c = one_table
