use Rattle.mql_parse.proofs.ReadingLaws.{spells_read, read_spells}
use Rattle.mql_parse.proofs.laws.expressions_are_read.Goals as goal

pub returns : goal.returns
returns c = λ len words t. (spells_read len words t, read_spells len words t)
