use Rattle.std.proofs.Common.{◌≡◌, [], true, None, sym, ap, ◌∙◌}
use Rattle.std.specs.Prelude.{option_map}
use Rattle.vm_labels.specs.Labels.{twice_named, names_rise}
use Rattle.vm_labels.proofs.BuildLaws.{ordered_by_sort, ordered_already}
use Rattle.vm_labels.proofs.OrderLaws.{sorted_from_pair_sort}
use Rattle.vm_labels.proofs.build.ordered.Goals as goal

pub returns-then-names_rise : goal.returns-then-names_rise
returns-then-names_rise c =
    let rises : names_rise c.args.pairs.items ≡ true = ap names_rise (sym c.deref.ensures.value)
    ∙ sym c.names_rise.ensures ∙ c.if-names_rise.true in
    rw c.from_vec.ensures (ordered_already c.args.pairs.items rises)

pub returns : goal.returns
returns c =
    let single : twice_named [] c.args.pairs.items ≡ None =
    ap (twice_named []) (sym c.deref-2.ensures.value) ∙ sym c.in_ok-pair.ensures
    ∙ ap (option_map (λ p. p.now.name)) c.in_default.is in
    ordered_by_sort c.args.pairs.items c.from_vec-2.result single
    (c.from_vec-2.ensures
    ∙ sorted_from_pair_sort c.args.pairs.items _ c.sort_unstable.ensures.permutation
    c.sort_unstable.ensures.sorted)
