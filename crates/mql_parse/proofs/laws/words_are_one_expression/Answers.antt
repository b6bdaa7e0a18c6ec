use Rattle.mql_parse.proofs.ReadingLaws.{one_tree}
use Rattle.mql_parse.proofs.laws.words_are_one_expression.Goals as goal

pub returns : goal.returns
returns c = one_tree
