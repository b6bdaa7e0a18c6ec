use Rattle.std.proofs.Common.{rules}
use Rattle.std.proofs.lemmas.Iterator.{YieldsList-from_slice}
use Rattle.std.proofs.lemmas.Iterator.Search.{position_from_yields_List}
use borrow.Author.Tests.{tests}
use Rattle.vm_labels.specs.Labels.{is_badly_named}
use Rattle.vm_labels.proofs.build.bad_place.Goals as goal

pub returns : goal.returns
returns c =
    position_from_yields_List is_badly_named _ _ _ c.position.ensures.ran
    (YieldsList-from_slice _ c.iter.ensures.rest) (λ x b q k. search (rules, tests))
