use Rattle.std.proofs.Common.{◌≡◌, ◌-◌, ◌<◌, length, get_or, take, drop, flat_map, ap, ◌∙◌, subst, sym, refl, arith}
use Rattle.std.proofs.lemmas.List.{length-drop}
use Rattle.std.specs.List.{prefix_len}
use Rattle.vm_labels.specs.Labels.{label_eq}
use Rattle.vm_index.proofs.ListLaws.{rest_whole}
use Rattle.vm_series.specs.inner.Pieces.{OfOneSet}
use Rattle.vm_series.specs.Series.{rows_of_piece, series_of}
use Rattle.vm_series.proofs.GroupLaws.{group_alike, group_more, group_some}
use Rattle.vm_series.proofs.groups.gathered.Goals as goal

pub put_group-requires : goal.put_group-requires
put_group-requires c =
    let ys = take (length c.args.pieces.now - c.loop-at.at) (drop c.loop-at.at c.args.pieces.now) in
    let labels = (get_or ys 0 c.index-rest-0.result).labels.now in
    subst (λ n. OfOneSet labels (take n ys)) (sym c.group_len-len.ensures.value)
    (group_alike labels ys)

pub loop-at-smaller : goal.loop-at-smaller
loop-at-smaller c =
    let xs = c.args.pieces.now in
    let ys = take (length xs - c.loop-at.at) (drop c.loop-at.at xs) in
    let all : length ys ≡ length xs - c.loop-at.at = ap length (rest_whole xs c.loop-at.at)
    ∙ length-drop c.loop-at.at xs in
    let some : 0 < length ys = omega (arith, all, c.loop-at-test.true) in
    let first = get_or ys 0 c.index-rest-0.result in
    let front : 0 < prefix_len (λ p. label_eq p.labels.now first.labels.now) ys =
    group_some first ys some (ap (get_or ys 0) c.index-rest-0.is) in
    let is : c.group_len-len.result ≡ prefix_len (λ p. label_eq p.labels.now first.labels.now) ys =
    c.group_len-len.ensures.value in
    omega (arith, front, is, c.loop-at-test.true)

pub loop-at-preserved : goal.loop-at-preserved
loop-at-preserved c =
    let xs = c.args.pieces.now in
    let at = c.loop-at.at in
    let len = c.group_len-len.result in
    let ys = take (length xs - at) (drop at xs) in
    let rest : ys ≡ drop at xs = rest_whole xs at in
    let all : length ys ≡ length xs - at = ap length rest ∙ length-drop at xs in
    let some : 0 < length ys = omega (arith, all, c.loop-at-test.true) in
    let first = get_or ys 0 c.index-rest-0.result in
    let is : first ≡ get_or ys 0 first = ap (get_or ys 0) c.index-rest-0.is in
    record {
      gathered =
          group_more c.args.interval xs ys (take len ys) at len first c.loop-at.all
          c.put_group.new.all (series_of c.args.interval (flat_map rows_of_piece xs))
          rest refl some is c.group_len-len.ensures.value c.requires c.in_ok-put_group.ensures
          c.loop-at.invariant.gathered;
      within = omega (arith, all, c.group_len-len.ensures.within, c.loop-at-test.true);
    }
