use Rattle.std.proofs.Common.{subst, sym, ◌∙◌}
use Rattle.mql_lists.specs.Classes.{class_of_word}
use Rattle.mql_lists.specs.Words.{word_of}
use Rattle.mql_parse.specs.inner.Stack.{stack_of}
use Rattle.mql_parse.specs.inner.Views.{the_frames, the_joint, Steps}
use Rattle.mql_parse.proofs.Falls.{operated_falls}
use Rattle.mql_parse.proofs.joining.by_operator.Goals as goal

pub returns-in_default : goal.returns-in_default
returns-in_default c = λ len inside.
    let w = word_of c.args.text.now c.args.token in
    subst (Steps c.by_compared.result (stack_of c.by_compared.new.stack))
    (sym (operated_falls (the_frames (stack_of c.args.stack.now)) len (the_joint c.args.pending) w
    (class_of_word w)
    (λ is. c.in_default.not-Truth (c.class_of.ensures ∙ is))))
    (c.by_compared.ensures len inside)
