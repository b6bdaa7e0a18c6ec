use Rattle.vm_top.proofs.NoteLaws.{written_line}
use Rattle.vm_top.proofs.note.write_line.Goals as goal

pub returns-clause-written : goal.returns-clause-written
returns-clause-written g c =
    written_line c.write_all.result c.args.line.now (g.N.Sink.taken c.args.notes.now)
    (g.N.Sink.taken c.write_all.new.sink)
    (g.N.Sink.faults c.args.notes.now) (g.N.Sink.faults c.write_all.new.sink)
    c.write_all.ensures.all c.write_all.ensures.part c.write_all.ensures.failed
