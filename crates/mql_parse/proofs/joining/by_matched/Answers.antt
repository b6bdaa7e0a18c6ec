use Rattle.std.proofs.Common.{subst, sym, ◌∙◌, ◌∷◌}
use Rattle.mql_lists.specs.Classes.{class_of_word}
use Rattle.mql_lists.specs.Words.{word_of}
use Rattle.mql_parse.specs.Machine.{by_wanted, in_operator}
use Rattle.mql_parse.specs.inner.Stack.{stack_of}
use Rattle.mql_parse.specs.inner.Views.{the_frames, the_joint, Steps}
use Rattle.mql_parse.proofs.Falls.{matched_falls}
use Rattle.mql_parse.proofs.joining.by_matched.Goals as goal

pub returns-in_default : goal.returns-in_default
returns-in_default c = λ len inside.
    let w = word_of c.args.text.now c.args.token in
    let fs = the_frames (stack_of c.args.stack.now) in
    let j = the_joint c.args.paired.pending in
    let steps =
    subst (λ m.
    Steps c.within.result (stack_of c.within.new.stack)
    (by_wanted len (in_operator j m ∷ fs) w (class_of_word w)))
    c.modifiers-matching.ensures (c.within.ensures len inside) in
    subst (Steps c.within.result (stack_of c.within.new.stack))
    (sym (matched_falls fs len j c.args.paired.kind c.args.paired.names w (class_of_word w)
    (λ side is. c.in_default.not-Joining side (c.class_of.ensures ∙ is))))
    steps
