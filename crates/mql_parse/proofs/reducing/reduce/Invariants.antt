use Rattle.std.proofs.Common.{◌≡◌, length}
use Rattle.mql_expr.specs.Tree.{tree}
use Rattle.mql_parse.specs.Machine.{reduce as reduced}
use Rattle.mql_parse.specs.inner.Stack.{stack_of}
use Rattle.mql_parse.specs.inner.Views.{the_frames}
use Rattle.mql_parse.proofs.reducing.reduce.Given as goal

abbrev pub invariant-frames : goal.invariant-frames
invariant-frames l =
    reduced l.level (the_frames (stack_of l.stack)) (tree l.whole)
    ≡ reduced l.level (the_frames (stack_of l.fn.stack)) (tree l.fn.expr)

abbrev pub decreases-frames : goal.decreases-frames
decreases-frames l = length (stack_of l.stack)
