use Rattle.std.proofs.Common.{arith}
use Rattle.vm_match.specs.Built.{pattern_in}
use Rattle.vm_match.specs.Tests.{asked, kept}
use Rattle.vm_match.proofs.BuildLaws.{good_more, stops_at}
use Rattle.vm_match.proofs.TestLaws.{same_more}
use Rattle.vm_match.proofs.build.tests_of.Goals as goal

pub returns-in_err-test_of-clause-answer : goal.returns-in_err-test_of-clause-answer
returns-in_err-test_of-clause-answer g c =
    let at = c.loop-filter in
    let filter = c.filter-item in
    stops_at g.P.Patterns.IsPattern (λ f. pattern_in f.op f.value) c.args.filters.now
    at.filter-index
    filter.result filter.result _ _ _ c.in_err-test_of.field-0.0
    c.from_residual-in_err-test_of.result
    c.from_residual-in_err-test_of.ensures.1 c.loop-filter-test.true filter.is at.invariant.1
    at.invariant.2
    c.in_err-test_of.ensures.answer

pub loop-filter-preserved : goal.loop-filter-preserved
loop-filter-preserved g c =
    let at = c.loop-filter in
    let filter = c.filter-item in (
      same_more (kept g.P.Built.Pattern.text) asked _ _ c.args.filters.now at.filter-index _
          filter.result filter.result c.loop-filter-test.true filter.is at.invariant.0
          c.in_ok-push.ensures.ok c.in_ok-test_of.ensures.built,
      good_more g.P.Patterns.IsPattern (λ f. pattern_in f.op f.value) c.args.filters.now
          at.filter-index
          filter.result filter.result c.loop-filter-test.true filter.is at.invariant.1
          c.in_ok-test_of.ensures.answer,
      omega (arith, at.invariant.2, c.test_of.ensures.counted),
    )
