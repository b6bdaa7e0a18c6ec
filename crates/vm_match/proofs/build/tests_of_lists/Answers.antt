use Rattle.std.proofs.Common.{map, arith, ◌∙◌}
use Rattle.vm_match.specs.Built.{patterns_in}
use Rattle.vm_match.specs.Tests.{asked, kept}
use Rattle.vm_match.proofs.BuildLaws.{good_more, stops_at}
use Rattle.vm_match.proofs.TestLaws.{same_more}
use Rattle.vm_match.proofs.build.tests_of_lists.Goals as goal

pub returns-in_err-tests_of-clause-answer : goal.returns-in_err-tests_of-clause-answer
returns-in_err-tests_of-clause-answer g c =
    let at = c.loop-filters in
    let filters = c.as_slice.result.now in
    let is = c.as_slice.ensures ∙ c.filters-item.is in
    stops_at g.P.Patterns.IsPattern patterns_in c.args.lists.now at.filters-index filters
    c.filters-item.result
    _ _ _ c.in_err-tests_of.field-0.0 c.from_residual-in_err-tests_of.result
    c.from_residual-in_err-tests_of.ensures.1 c.loop-filters-test.true is at.invariant.1
    at.invariant.2
    c.in_err-tests_of.ensures.answer

pub loop-filters-preserved : goal.loop-filters-preserved
loop-filters-preserved g c =
    let at = c.loop-filters in
    let filters = c.as_slice.result.now in
    let is = c.as_slice.ensures ∙ c.filters-item.is in (
      same_more (λ list. map (kept g.P.Built.Pattern.text) list.items) (map asked)
          _ _ c.args.lists.now
          at.filters-index _ filters c.filters-item.result c.loop-filters-test.true is
          at.invariant.0
          c.in_ok-push.ensures.ok c.in_ok-tests_of.ensures.built,
      good_more g.P.Patterns.IsPattern patterns_in c.args.lists.now at.filters-index filters
          c.filters-item.result
          c.loop-filters-test.true is at.invariant.1 c.in_ok-tests_of.ensures.answer,
      omega (arith, at.invariant.2, c.tests_of.ensures.counted),
    )
