use Rattle.std.proofs.Common.{subst, sym}
use Rattle.mql_expr.specs.Tree.{tree}
use Rattle.mql_parse.specs.inner.Stack.{stack_of}
use Rattle.mql_parse.specs.inner.Views.{the_frames, Steps}
use Rattle.mql_parse.proofs.Falls.{primary_falls}
use Rattle.mql_parse.proofs.operand.by_primary.Goals as goal

pub returns-in_default : goal.returns-in_default
returns-in_default c =
    subst (Steps c.go_on.result (stack_of c.go_on.new.stack))
    (sym (primary_falls (the_frames (stack_of c.args.stack.now)) (tree c.args.expr) c.args.here.at
    c.args.here.class
    c.in_default.not-OpenSquare c.in_default.not-Offset))
    c.go_on.ensures
