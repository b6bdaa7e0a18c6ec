use Rattle.mql_laws.proofs.ReadBackTexts.{same_text, one_query}
use Rattle.mql_laws.proofs.laws.canonical_text_is_one_query.Goals as goal

pub returns : goal.returns
returns c = record { same = same_text; apart = one_query }
