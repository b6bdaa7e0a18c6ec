use Rattle.std.proofs.Common.{◌≤◌}
use Rattle.vm_lines.specs.Reading.{to_go, KnowsEnd}
use Rattle.vm_top.specs.inner.Playing.{HasPlayed}
use Rattle.vm_top.specs.inner.Reading.{Takes, GoesOver, first_place}
use Rattle.vm_top.proofs.play.play.Given as goal

abbrev pub invariant-lines : goal.invariant-lines
invariant-lines g l =
    let left = g.S.Source.left in
    let taken = g.K.Sink.taken in
    record {
      played :
          HasPlayed l.machine l.lines (left l.initial.input) (left l.input) (taken l.initial.output)
          (taken l.output);
      over : GoesOver first_place l.lines (left l.initial.input) (left l.input);
      knows : KnowsEnd l.lines.reading (left l.input);
      takes : Takes first_place l.lines (left l.initial.input) (left l.input);
      input_counted : g.S.Source.faults l.initial.input ≤ g.S.Source.faults l.input;
      output_counted : g.K.Sink.faults l.initial.output ≤ g.K.Sink.faults l.output;
    }

abbrev pub decreases-lines : goal.decreases-lines
decreases-lines g l = to_go l.lines.reading
