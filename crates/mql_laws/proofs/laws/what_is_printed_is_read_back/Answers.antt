use Rattle.mql_laws.proofs.ReadBackLaws.{printed_is_read, said_is_read}
use Rattle.mql_laws.proofs.ReadBackSaid.{text_is_said}
use Rattle.mql_laws.proofs.laws.what_is_printed_is_read_back.Goals as goal

pub returns : goal.returns
returns c = record { of_texts = printed_is_read; of_trees = said_is_read; texts_are = text_is_said }
