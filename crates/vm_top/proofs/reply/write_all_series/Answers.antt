use Rattle.vm_top.proofs.ReplyLaws.{series_written}
use Rattle.vm_top.proofs.reply.write_all_series.Goals as goal

pub returns-in_ok-write_more_series-in-Some : goal.returns-in_ok-write_more_series-in-Some
returns-in_ok-write_more_series-in-Some c =
    series_written c.args.time c.args.values.now c.in-Some.first.now c.in-Some.rest.now
    c.args.body.now.items
    c.write_series.new.body.items c.write_more_series.new.body.items c.in-Some.ensures.cases.0
    c.in_ok-write_series-in-Some.ensures c.in_ok-write_more_series-in-Some.ensures
