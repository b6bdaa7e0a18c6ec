use Rattle.std.proofs.Common.{◌+◌, ◌&&◌, drop, sym, ap, ◌∙◌}
use Rattle.mql_expr.specs.Kinds.{are_numeric}
use Rattle.mql_expr.specs.Tree.{trees_in}
use Rattle.mql_expr.proofs.TreeLaws.{next_at}
use Rattle.mql_expr.proofs.kinds.+numeric.Goals as goal

pub are_numeric-loop-expr-preserved : goal.are_numeric-loop-expr-preserved
are_numeric-loop-expr-preserved t c =
    c.loop-expr.invariant
    ∙ ap are_numeric
    (next_at c.args.exprs.now c.loop-expr.expr-index c.expr-item.result c.loop-expr-test.true
    c.expr-item.is)
    ∙ ap (λ b. b && are_numeric (trees_in (drop (c.loop-expr.expr-index + 1) c.args.exprs.now)))
    (sym c.if-not-is_numeric.ensures)

pub are_numeric-returns-then-not-is_numeric : goal.are_numeric-returns-then-not-is_numeric
are_numeric-returns-then-not-is_numeric t c =
    sym (c.loop-expr.invariant
    ∙ ap are_numeric
    (next_at c.args.exprs.now c.loop-expr.expr-index c.expr-item.result c.loop-expr-test.true
    c.expr-item.is)
    ∙ ap (λ b. b && are_numeric (trees_in (drop (c.loop-expr.expr-index + 1) c.args.exprs.now)))
    (sym c.if-not-is_numeric.ensures))
