use Rattle.std.proofs.Common.{◌≡◌, refl, ◌+◌, ◌-◌, ◌<◌, ◌++◌, length, get_or, take, drop, map, ap, ◌∙◌, arith}
use Rattle.std.proofs.lemmas.List.{length-drop}
use Rattle.std.specs.List.{prefix_len}
use Rattle.vm_labels.specs.Labels.{pair_eq}
use Rattle.vm_index.specs.inner.Entries.{gathered, seen}
use Rattle.vm_index.proofs.ListLaws.{rest_whole}
use Rattle.vm_index.proofs.GatherLaws.{group_more, group_some}
use Rattle.vm_index.proofs.entries.gathered.Goals as goal

pub loop-at-preserved : goal.loop-at-preserved
loop-at-preserved c =
    let xs = c.args.entries.now in
    let at = c.loop-at.at in
    let len = c.group_len-len.result in
    let ys = take (length xs - at) (drop at xs) in
    let rest : ys ≡ drop at xs = rest_whole xs at in
    let all : length ys ≡ length xs - at = ap length rest ∙ length-drop at xs in
    let some : 0 < length ys = omega (arith, all, c.loop-at-test.true) in
    let first = get_or ys 0 c.index-rest-0.result in
    let is : first ≡ get_or ys 0 first = ap (get_or ys 0) c.index-rest-0.is in (
      ap (λ qs. qs ++ gathered (map seen (drop (at + len) xs))) c.in_ok-push.ensures.items
          ∙ group_more seen xs ys (take len ys) at len first c.in_ok-collected.field-0
          c.loop-at.postings.items (gathered (map seen xs)) rest refl some is
          c.group_len-len.ensures.value c.in_ok-collected.ensures c.loop-at.invariant.0,
      omega (arith, all, c.group_len-len.ensures.within, c.loop-at-test.true),
    )

pub loop-at-smaller : goal.loop-at-smaller
loop-at-smaller c =
    let xs = c.args.entries.now in
    let ys = take (length xs - c.loop-at.at) (drop c.loop-at.at xs) in
    let all : length ys ≡ length xs - c.loop-at.at = ap length (rest_whole xs c.loop-at.at)
    ∙ length-drop c.loop-at.at xs in
    let some : 0 < length ys = omega (arith, all, c.loop-at-test.true) in
    let first = get_or ys 0 c.index-rest-0.result in
    let front : 0 < prefix_len (λ e. pair_eq (seen e).0 (seen first).0) ys =
    group_some seen first ys some (ap (get_or ys 0) c.index-rest-0.is) in
    let is : c.group_len-len.result ≡ prefix_len (λ e. pair_eq (seen e).0 (seen first).0) ys =
    c.group_len-len.ensures.value in
    omega (arith, front, is, c.loop-at-test.true)
