use Rattle.std.proofs.Common.{map, ap, sym, ◌∙◌, rules}
use Rattle.std.specs.List.{list_all}
use Rattle.vm_labels.specs.Selected.{meets}
use Rattle.vm_match.specs.Tests.{asked, kept}
use Rattle.vm_match.proofs.TestLaws.{none_more, same_at, same_within}
use Rattle.vm_match.proofs.test.meets_any.Goals as goal

pub meets_all-requires : goal.meets_all-requires
meets_all-requires g c = record {
  built = ap (map (kept g.M.Pattern.text)) c.as_mut_slice.ensures.value
      ∙ same_at (λ list. map (kept g.M.Pattern.text) list.items) (map asked) c.loop-at.tests
      c.args.lists.now
      c.loop-at.at c.index-tests-at.result c.index-lists-at.result c.loop-at.invariant.0
      c.loop-at-test.true
      ∙ ap (map asked) (sym (c.as_slice.ensures ∙ c.index-lists-at.is));
}

pub returns-in_err-meets_all-clause-kept : goal.returns-in_err-meets_all-clause-kept
returns-in_err-meets_all-clause-kept g c =
    same_within (kept g.M.Pattern.text) c.loop-at.tests c.loop-at.at c.index-tests-at.result
    c.meets_all.new.tests
    c.as_mut_slice.result.now _ (c.meets_all.auto.tests ∙ c.as_mut_slice.ensures.len)
    c.as_mut_slice.ensures.value
    c.meets_all.ensures.kept (c.loop-at.invariant.0 ∙ sym c.requires.built)

pub returns-then-branch-clause-kept : goal.returns-then-branch-clause-kept
returns-then-branch-clause-kept g c =
    same_within (kept g.M.Pattern.text) c.loop-at.tests c.loop-at.at c.index-tests-at.result
    c.meets_all.new.tests
    c.as_mut_slice.result.now _ (c.meets_all.auto.tests ∙ c.as_mut_slice.ensures.len)
    c.as_mut_slice.ensures.value
    c.meets_all.ensures.kept (c.loop-at.invariant.0 ∙ sym c.requires.built)

pub loop-at-preserved : goal.loop-at-preserved
loop-at-preserved g c = (
  same_within (kept g.M.Pattern.text) c.loop-at.tests c.loop-at.at c.index-tests-at.result
      c.meets_all.new.tests
      c.as_mut_slice.result.now _ (c.meets_all.auto.tests ∙ c.as_mut_slice.ensures.len)
      c.as_mut_slice.ensures.value
      c.meets_all.ensures.kept c.loop-at.invariant.0,
  none_more (list_all (λ f. meets g.M.Pattern.matches f c.args.labels.now)) c.args.lists.now
      c.loop-at.at
      c.as_slice.result.now c.index-lists-at.result c.in_ok-meets_all.field-0 c.loop-at-test.true
      (c.as_slice.ensures ∙ c.index-lists-at.is) c.loop-at.invariant.1
      c.in_ok-meets_all.ensures.value
      (search rules),
)
