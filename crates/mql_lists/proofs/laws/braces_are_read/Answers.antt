use Rattle.mql_lists.proofs.BraceLaws.{braces_law}
use Rattle.mql_lists.proofs.laws.braces_are_read.Goals as goal

pub returns : goal.returns
returns c = braces_law
