use Rattle.std.proofs.Common.{subst, sym}
use Rattle.mql_expr.specs.Tree.{select}
use Rattle.mql_lists.specs.Classes.{class_of_word}
use Rattle.mql_lists.specs.Words.{word_of}
use Rattle.mql_parse.specs.Machine.{at, by, in_names, in_braces, named_for, primary, within_part}
use Rattle.mql_parse.specs.inner.Stack.{stack_of}
use Rattle.mql_parse.specs.inner.Views.{the_before, the_frames, the_purpose, Steps}
use Rattle.mql_parse.proofs.step.step.Goals as goal

pub returns-in_ok-progress-in-InNames : goal.returns-in_ok-progress-in-InNames
returns-in_ok-progress-in-InNames c = λ len inside.
    let w = word_of c.args.text.now c.args.token in
    let fs = the_frames (stack_of c.args.stack.now) in
    let purpose = the_purpose c.in-InNames.purpose in
    let steps =
    subst (λ p.
    Steps c.behind_names.result (stack_of c.behind_names.new.stack)
    (within_part (λ s. at fs (in_names purpose s)) (named_for fs purpose) p))
    c.in_ok-progress-in-InNames.ensures c.behind_names.ensures in
    subst (λ last.
    Steps c.behind_names.result (stack_of c.behind_names.new.stack)
    (by len fs (the_before last) w (class_of_word w))) (sym c.in-InNames.is) steps

pub returns-in_ok-progress-in-InBraces : goal.returns-in_ok-progress-in-InBraces
returns-in_ok-progress-in-InBraces c = λ len inside.
    let w = word_of c.args.text.now c.args.token in
    let opens = stack_of c.args.stack.now in
    let fs = the_frames opens in
    let place = c.in-InBraces.place in
    let name = c.in-InBraces.name in
    let steps =
    subst (λ p.
    Steps c.behind_braces.result opens
    (within_part (λ s. at fs (in_braces place name s))
    (λ lists. at fs (primary (select place name lists))) p))
    c.in_ok-progress-in-InBraces.ensures (c.behind_braces.ensures opens) in
    subst (λ last.
    Steps c.behind_braces.result opens (by len fs (the_before last) w (class_of_word w)))
    (sym c.in-InBraces.is) steps
