use Rattle.std.proofs.Common.{ap, ◌∙◌}
use Rattle.vm_top.specs.Reply.{reply}
use Rattle.vm_top.proofs.LastLaws.{told_more, answer_from}
use Rattle.vm_top.proofs.last.last_answer.Goals as goal

pub returns-clause-body : goal.returns-clause-body
returns-clause-body g c =
    told_more (g.S.Source.left c.args.input.now) _ _
    (λ bytes there.
    answer_from c.args.name.now c.args.time c.args.now bytes c.in_ok-question.question
    c.in_ok-found.found c.in_ok-values.values c.in_ok-body.body.items
    c.in_ok-question.ensures there c.in_ok-values.ensures
    (c.in_ok-body.ensures ∙ ap (reply c.args.time) c.as_slice.ensures))
    c.in_ok-found.ensures.found
