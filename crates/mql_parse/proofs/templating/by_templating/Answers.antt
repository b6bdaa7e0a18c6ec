use Rattle.std.proofs.Common.{subst, sym}
use Rattle.mql_lists.specs.Classes.{class_of_word}
use Rattle.mql_lists.specs.Words.{word_of}
use Rattle.mql_parse.specs.Machine.{at, by, in_params, template_headed, within_part}
use Rattle.mql_parse.specs.inner.Stack.{stack_of}
use Rattle.mql_parse.specs.inner.Views.{the_frames, the_head, the_scope, the_templating, Steps}
use Rattle.mql_parse.proofs.templating.by_templating.Goals as goal

pub returns-in_ok-progress-in-InParams : goal.returns-in_ok-progress-in-InParams
returns-in_ok-progress-in-InParams c = λ len inside.
    let w = word_of c.args.text.now c.args.token in
    let opens = stack_of c.args.stack.now in
    let fs = the_frames opens in
    let scope = the_scope c.in-InParams.scope in
    let head = the_head c.in-InParams.head in
    let steps =
    subst (λ p.
    Steps c.behind_params.result opens
    (within_part (λ s. at fs (in_params scope head s))
    (λ ps. at fs (template_headed scope head ps)) p))
    c.in_ok-progress-in-InParams.ensures (c.behind_params.ensures opens) in
    subst (λ state.
    Steps c.behind_params.result opens (by len fs (the_templating state) w (class_of_word w)))
    (sym c.in-InParams.is) steps
