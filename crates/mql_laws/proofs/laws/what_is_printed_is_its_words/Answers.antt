use Rattle.mql_laws.proofs.PrintedWords.{prints_its_words}
use Rattle.mql_laws.proofs.laws.what_is_printed_is_its_words.Goals as goal

pub returns : goal.returns
returns c = prints_its_words
