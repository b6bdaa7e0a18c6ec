use Rattle.std.proofs.Common.{◌≡◌, sym, subst, ap, ◌∙◌, rules, flat_map}
use Rattle.std.proofs.lemmas.List.Sorted.{answers_always}
use Rattle.std.proofs.lemmas.Result.{IfOk-weaker}
use Rattle.vm_series.specs.inner.Pieces.{InLabelOrder}
use Rattle.vm_series.specs.Series.{rows_of_piece, series_of}
use Rattle.vm_series.proofs.GroupLaws.{in_label_order, series-permuted}
use Rattle.vm_series.proofs.groups.gather.Goals as goal

pub gathered-requires : goal.gathered-requires
gathered-requires c =
    subst InLabelOrder (sym c.deref.ensures.value)
    (in_label_order c.sort_unstable_by_key.new.self.items
    (c.sort_unstable_by_key.ensures.sorted (λ p. p.labels)
    (answers_always _ _ _ (λ f a r g h. search rules))))

pub returns : goal.returns
returns c =
    IfOk-weaker c.gathered.result
    (λ all. all ≡ series_of c.args.interval (flat_map rows_of_piece c.deref.result.now))
    (λ all. all ≡ series_of c.args.interval (flat_map rows_of_piece c.args.pieces.items))
    (λ all is. is
    ∙ ap (λ ps. series_of c.args.interval (flat_map rows_of_piece ps)) c.deref.ensures.value
    ∙ series-permuted c.args.interval c.args.pieces.items c.sort_unstable_by_key.new.self.items
    c.sort_unstable_by_key.ensures.permutation)
    c.gathered.ensures
