use Rattle.std.proofs.Common.{subst, sym}
use Rattle.mql_parse.specs.inner.Stack.{stack_of}
use Rattle.mql_parse.specs.inner.Views.{the_call, the_frames, Steps}
use Rattle.mql_parse.proofs.Falls.{regrouped_falls}
use Rattle.mql_parse.proofs.operand.by_regrouped.Goals as goal

pub returns-in_default : goal.returns-in_default
returns-in_default c =
    subst (Steps c.by_call.result (stack_of c.by_call.new.stack))
    (sym (regrouped_falls (the_frames (stack_of c.args.stack.now)) (the_call c.args.call)
    c.args.here.at c.args.here.class c.in_default.not-Keep))
    c.by_call.ensures
