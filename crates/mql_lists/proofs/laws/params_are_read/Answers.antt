use Rattle.mql_lists.proofs.ParamLaws.{params_law}
use Rattle.mql_lists.proofs.laws.params_are_read.Goals as goal

pub returns : goal.returns
returns c = params_law
