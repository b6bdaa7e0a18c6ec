use Rattle.std.proofs.Common.{ap, sym, ◌∙◌, rules}
use Rattle.vm_labels.specs.Selected.{meets}
use Rattle.vm_match.specs.Tests.{asked, kept}
use Rattle.vm_match.proofs.TestLaws.{all_more, same_at, same_written}
use Rattle.vm_match.proofs.test.meets_all.Goals as goal

pub is_met-requires : goal.is_met-requires
is_met-requires g c = record {
  built = same_at (kept g.M.Pattern.text) asked c.loop-at.tests c.args.filters.now c.loop-at.at
      c.index-tests-at.result c.index-filters-at.result c.loop-at.invariant.0 c.loop-at-test.true
      ∙ ap asked (sym c.index-filters-at.is);
}

pub returns-in_err-is_met-clause-kept : goal.returns-in_err-is_met-clause-kept
returns-in_err-is_met-clause-kept g c =
    same_written (kept g.M.Pattern.text) c.loop-at.tests c.loop-at.at c.is_met.new.test
    c.index-tests-at.result _
    c.is_met.ensures.kept (c.loop-at.invariant.0 ∙ sym c.requires.built)

pub returns-then-not-branch-clause-kept : goal.returns-then-not-branch-clause-kept
returns-then-not-branch-clause-kept g c =
    same_written (kept g.M.Pattern.text) c.loop-at.tests c.loop-at.at c.is_met.new.test
    c.index-tests-at.result _
    c.is_met.ensures.kept (c.loop-at.invariant.0 ∙ sym c.requires.built)

pub loop-at-preserved : goal.loop-at-preserved
loop-at-preserved g c = (
  same_written (kept g.M.Pattern.text) c.loop-at.tests c.loop-at.at c.is_met.new.test
      c.index-tests-at.result _
      c.is_met.ensures.kept c.loop-at.invariant.0,
  all_more (λ f. meets g.M.Pattern.matches f c.args.labels.now) c.args.filters.now c.loop-at.at
      c.index-filters-at.result c.index-filters-at.result c.in_ok-is_met.field-0 c.loop-at-test.true
      c.index-filters-at.is c.loop-at.invariant.1 c.in_ok-is_met.ensures.value (search rules),
)
