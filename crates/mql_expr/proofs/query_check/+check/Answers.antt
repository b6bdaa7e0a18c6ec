use Rattle.std.proofs.Common.{◌≡◌, ◌+◌, drop, Ok, Err, sym, ap, ◌∙◌}
use Rattle.std.proofs.lemmas.Result.{err_from_is_err_and}
use Rattle.mql_expr.specs.Check.{faults, template_faults, first_fault}
use Rattle.mql_expr.specs.Tree.{tree, templates_in}
use Rattle.mql_expr.proofs.FaultLaws.{goes_on, ranged_goes_on, binary_goes_on, binary_stops, with_goes_on}
use Rattle.mql_expr.proofs.TreeLaws.{template_at}
use Rattle.mql_expr.proofs.query_check.+check.Goals as goal

pub check_parts-returns-in_ok-check_parts-in-Ranged :
    goal.check_parts-returns-in_ok-check_parts-in-Ranged
check_parts-returns-in_ok-check_parts-in-Ranged t c =
    let ok : first_fault (faults (tree c.in-Ranged.inner))
    ≡ Ok c.in_ok-check_parts-in-Ranged.field-0 = cc c.in_ok-check_parts-in-Ranged.ensures in
    let whole =
    ranged_goes_on c.args.expr.now c.in-Ranged.inner c.in-Ranged.window c.in-Ranged.offset
    c.in_ok-check_parts-in-Ranged.field-0 c.in-Ranged.is ok in
    cc

pub check_parts-returns-in_ok-check_templates-in-With :
    goal.check_parts-returns-in_ok-check_templates-in-With
check_parts-returns-in_ok-check_templates-in-With t c =
    let ok : first_fault (template_faults (templates_in c.in-With.templates))
    ≡ Ok c.in_ok-check_templates-in-With.field-0 = cc c.in_ok-check_templates-in-With.ensures in
    let whole =
    with_goes_on c.args.expr.now c.in-With.body c.in-With.templates
    c.in_ok-check_templates-in-With.field-0 c.in-With.is ok in
    cc

pub check_templates-loop-template-preserved : goal.check_templates-loop-template-preserved
check_templates-loop-template-preserved t c =
    let more = templates_in (drop (c.loop-template.template-index + 1) c.args.templates.now) in
    c.loop-template.invariant
    ∙ ap (λ ts. first_fault (template_faults ts))
    (template_at c.args.templates.now c.loop-template.template-index c.template-item.result
    c.loop-template-test.true c.template-item.is)
    ∙ goes_on (faults (tree c.template-item.result.body)) (template_faults more)
    c.in_ok-check_parts.field-0 (sym c.in_ok-check_parts.ensures)

pub check_parts-returns-in_ok-check_parts-in-Binary-2 :
    goal.check_parts-returns-in_ok-check_parts-in-Binary-2
check_parts-returns-in_ok-check_parts-in-Binary-2 t c =
    let ok : first_fault (faults (tree c.in-Binary.left))
    ≡ Ok c.in_ok-check_parts-in-Binary.field-0 = cc c.in_ok-check_parts-in-Binary.ensures in
    let too : first_fault (faults (tree c.in-Binary.right))
    ≡ Ok c.in_ok-check_parts-in-Binary-2.field-0 = cc c.in_ok-check_parts-in-Binary-2.ensures in
    let whole =
    binary_goes_on c.args.expr.now c.in-Binary.left c.in-Binary.right c.in-Binary.op
    c.in-Binary.truth c.in-Binary.matching _ _ c.in-Binary.is ok too in
    cc

pub check_parts-returns-in_err-check_parts-in-Binary-2 :
    goal.check_parts-returns-in_err-check_parts-in-Binary-2
check_parts-returns-in_err-check_parts-in-Binary-2 t c =
    let ok : first_fault (faults (tree c.in-Binary.left))
    ≡ Ok c.in_ok-check_parts-in-Binary.field-0 = cc c.in_ok-check_parts-in-Binary.ensures in
    let first : first_fault (faults (tree c.in-Binary.right))
    ≡ Err c.in_err-check_parts-in-Binary-2.field-0.0 =
    cc c.in_err-check_parts-in-Binary-2.ensures in
    let whole =
    binary_stops c.args.expr.now c.in-Binary.left c.in-Binary.right c.in-Binary.op
    c.in-Binary.truth c.in-Binary.matching _ _ c.in-Binary.is ok first in
    let p = err_from_is_err_and c.from_residual-in_err-check_parts-in-Binary-2.result
    c.from_residual-in_err-check_parts-in-Binary-2.ensures.1 in
    p.1 ∙ ap Err p.2 ∙ sym whole
