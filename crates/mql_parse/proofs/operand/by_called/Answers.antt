use Rattle.std.proofs.Common.{subst, sym}
use Rattle.mql_parse.specs.inner.Stack.{stack_of}
use Rattle.mql_parse.specs.inner.Views.{the_call, the_frames, Steps}
use Rattle.mql_parse.proofs.Falls.{called_falls}
use Rattle.mql_parse.proofs.operand.by_called.Goals as goal

pub returns-in_default : goal.returns-in_default
returns-in_default c =
    let h = c.in_default.not-Grouping in
    subst (Steps c.by_regrouped.result (stack_of c.by_regrouped.new.stack))
    (sym (called_falls (the_frames (stack_of c.args.stack.now)) (the_call c.args.call)
    c.args.here.at c.args.here.class c.in_default.not-Grouping))
    c.by_regrouped.ensures
