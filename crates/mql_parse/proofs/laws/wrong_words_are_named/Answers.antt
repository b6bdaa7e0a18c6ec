use Rattle.mql_parse.proofs.ReadingLaws.{unexpected_there, deep_there, wide_there, short_there}
use Rattle.mql_parse.proofs.laws.wrong_words_are_named.Goals as goal

pub returns : goal.returns
returns c = record {
  unexpected = λ len front rest s w there is. unexpected_there len front rest s w there is;
  too_deep = λ len front rest s w there is. deep_there len front rest s w there is;
  too_wide = λ len front rest s w there is. wide_there len front rest s w there is;
  short = λ len words s there none. short_there len words s there none;
}
