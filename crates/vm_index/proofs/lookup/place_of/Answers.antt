use Rattle.std.proofs.Common.{rules}
use Rattle.std.proofs.lemmas.Fn.{always_returns_same}
use Rattle.vm_labels.specs.Labels.{pair_cmp}
use Rattle.vm_index.proofs.lookup.place_of.Goals as goal

pub returns-clause-place : goal.returns-clause-place
returns-clause-place c =
    c.binary_search_by.ensures.position
    (λ q. pair_cmp q.pair (record { name = c.args.name.now; value = c.args.value.now }))
    (always_returns_same _ _ _ (λ a r g called. search rules))
