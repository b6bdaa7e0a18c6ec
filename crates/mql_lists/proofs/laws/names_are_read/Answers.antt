use Rattle.mql_lists.proofs.NameLaws.{names_law}
use Rattle.mql_lists.proofs.laws.names_are_read.Goals as goal

pub returns : goal.returns
returns c = names_law
