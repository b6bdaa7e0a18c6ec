use Rattle.std.proofs.Common.{subst, ap}
use Rattle.mql_lists.specs.Classes.{class_of_word}
use Rattle.mql_lists.specs.Words.{word_of}
use Rattle.mql_parse.specs.Machine.{by_wanted}
use Rattle.mql_parse.specs.inner.Stack.{stack_of}
use Rattle.mql_parse.specs.inner.Views.{the_frames, Steps}
use Rattle.mql_parse.proofs.joining.within.Goals as goal

pub returns : goal.returns
returns c = λ len inside.
    let w = word_of c.args.text.now c.args.token in
    subst (λ fs.
    Steps c.by_nothing.result (stack_of c.by_nothing.new.stack)
    (by_wanted len fs w (class_of_word w)))
    (ap the_frames c.in_ok-push.ensures) (c.by_nothing.ensures len inside)
