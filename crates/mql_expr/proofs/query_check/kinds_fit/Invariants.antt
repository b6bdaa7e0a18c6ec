use Rattle.std.proofs.Common.{◌≡◌, drop}
use Rattle.mql_expr.specs.Check.{may_be_from}
use Rattle.mql_expr.specs.Tree.{trees_in}
use Rattle.mql_expr.proofs.query_check.kinds_fit.Given as goal

abbrev pub invariant-loop-index : goal.invariant-loop-index
invariant-loop-index l =
    may_be_from l.known 0 (trees_in l.args)
    ≡ may_be_from l.known l.index (trees_in (drop l.index l.args))
