use Rattle.std.proofs.Common.{◌≡◌, drop}
use Rattle.mql_expr.specs.Kinds.{are_numeric}
use Rattle.mql_expr.specs.Tree.{trees_in}
use Rattle.mql_expr.proofs.kinds.+numeric.Given as goal

abbrev pub invariant-are_numeric-loop-expr : goal.invariant-are_numeric-loop-expr
invariant-are_numeric-loop-expr l =
    are_numeric (trees_in l.exprs) ≡ are_numeric (trees_in (drop l.expr-index l.exprs))
