use Rattle.std.proofs.Common.{◌∙◌, sym}
use Rattle.vm_script.proofs.ItemLaws.{pushed}
use Rattle.vm_script.proofs.expression.push_item.Goals as goal

pub returns-clause-pushed : goal.returns-clause-pushed
returns-clause-pushed c =
    let read = rw c.in_ok-item.was at c.read_item.ensures in
    let first = c.in-Some in
    let second = c.in-Some-cut_at_quote in
    pushed _ _ c.in-Some-2.item first.key.now second.value.now c.args.text.now first.behind.now
    second.behind.now
    first.ensures.cut second.ensures.cut (sym read ∙ c.in-Some-2.is) c.in_ok-push.ensures.ok
