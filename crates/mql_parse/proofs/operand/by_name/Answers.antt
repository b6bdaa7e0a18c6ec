use Rattle.std.proofs.Common.{subst, sym}
use Rattle.mql_parse.specs.inner.Stack.{stack_of}
use Rattle.mql_parse.specs.inner.Views.{the_frames, the_head, Steps}
use Rattle.mql_parse.proofs.Falls.{named_falls}
use Rattle.mql_parse.proofs.operand.by_name.Goals as goal

pub returns-in_default : goal.returns-in_default
returns-in_default c = λ len inside.
    subst (Steps c.by_metric.result (stack_of c.by_metric.new.stack))
    (sym (named_falls (the_frames (stack_of c.args.stack.now)) len (the_head c.args.head)
    c.args.here.at c.args.here.class
    c.in_default.not-OpenRound c.in_default.not-OpenCurly c.in_default.not-Grouping))
    c.by_metric.ensures
