use Rattle.std.proofs.Common.{◌++◌, ap, ◌∙◌}
use Rattle.vm_top.specs.Reply.{next_series}
use Rattle.vm_top.proofs.ReplyLaws.{more_written}
use Rattle.vm_top.proofs.reply.write_more_series.Goals as goal

pub loop-valued-preserved : goal.loop-valued-preserved
loop-valued-preserved c =
    let f = next_series c.args.time in
    more_written f c.args.values.now c.loop-valued.valued-index c.valued-item.result
    c.args.body.now.items
    c.loop-valued.body.items c.write_next.new.body.items c.loop-valued-test.true
    c.loop-valued.invariant
    (c.in_ok-write_next.ensures ∙ ap (λ item. c.loop-valued.body.items ++ f item) c.valued-item.is)
