use Rattle.std.proofs.Common.{Result, arith, refl, sym, subst}
use Rattle.vm_outside.specs.Outside.{Told}
use Rattle.vm_top.specs.inner.Playing.{Ends, HasPlayed}
use Rattle.vm_top.specs.inner.Reading.{Comes, HasLine, first_place}
use Rattle.vm_top.specs.declared.fault.Fault.{Fault}
use Rattle.vm_top.specs.declared.fault.Fault.TheVariants.{Memory}
use Rattle.vm_top.proofs.ActLaws.{at_err}
use Rattle.vm_top.proofs.InputLaws.{takes_more, long_from, short_at_end}
use Rattle.vm_top.proofs.LastLaws.{none_taken}
use Rattle.vm_top.proofs.PlayLaws.{plays_none, plays_more, stopped_none, ends_failed, ends_failed_line, ends_part, ends_whole}
use Rattle.vm_top.proofs.TakenLaws.{knows_none, over_first, over_more}
use Rattle.vm_top.proofs.play.play.Goals as goal

pub returns-in_err-lines-clause-ends : goal.returns-in_err-lines-clause-ends
returns-in_err-lines-clause-ends g c =
    let left = g.S.Source.left c.args.input.now in
    let taken = g.K.Sink.taken c.args.output.now in
    at_err (λ result. Told left (Ends result left taken taken)) c.from_residual.result Memory
    c.from_residual.ensures.1
    (stopped_none left taken)

pub lines-init : goal.lines-init
lines-init g c =
    let left = g.S.Source.left c.args.input.now in
    let taken = g.K.Sink.taken c.args.output.now in
    let lines = c.in_ok-lines.lines in
    record {
      played =
          subst (λ machine. HasPlayed machine lines left left taken taken)
          (sym c.new-machine.ensures)
          (plays_none lines left taken c.in_ok-lines.ensures);
      over = over_first lines left c.in_ok-lines.ensures;
      knows = knows_none lines left c.in_ok-lines.ensures;
      takes = none_taken lines left c.in_ok-lines.ensures;
      input_counted = omega arith;
      output_counted = omega arith;
    }

pub returns-in_err-step-clause-ends : goal.returns-in_err-step-clause-ends
returns-in_err-step-clause-ends g c =
    let left = g.S.Source.left in
    let taken = g.K.Sink.taken in
    let fault = c.in_err-step.field-0.0 in
    at_err (λ result.
    Told (left c.args.input.now)
    (Ends result (left c.advance.new.input) (taken c.args.output.now) (taken c.lines.output)))
    c.from_residual-in_err-step.result fault c.from_residual-in_err-step.ensures.1
    (ends_failed fault c.lines.machine c.lines.lines (left c.args.input.now) (left c.lines.input)
    (left c.advance.new.input)
    (taken c.args.output.now) (taken c.lines.output) c.lines.invariant.played c.lines.invariant.over
    c.in_err-step.ensures.stops
    c.in_err-step.ensures.others
    (λ is. long_from first_place c.lines.lines (left c.args.input.now) (left c.lines.input)
    c.lines.invariant.takes refl (c.in_err-step.ensures.too_long is)))

pub returns-in_err-response-clause-ends : goal.returns-in_err-response-clause-ends
returns-in_err-response-clause-ends g c =
    let left = g.S.Source.left in
    let taken = g.K.Sink.taken in
    let fault = c.in_err-response.field-0.0 in
    let has :
    HasLine c.in-Some.step c.lines.lines c.advance.new.self (left c.lines.input)
    (left c.advance.new.input) =
    subst (λ s.
    Comes s c.lines.lines c.advance.new.self (left c.lines.input) (left c.advance.new.input))
    c.in-Some.is c.in_ok-step.ensures.comes in
    let takes =
    takes_more first_place c.lines.lines c.advance.new.self (left c.args.input.now)
    (left c.lines.input)
    (left c.advance.new.input) c.lines.invariant.takes c.in_ok-step.ensures.takes in
    at_err (λ result.
    Told (left c.args.input.now)
    (Ends result (left c.play_line.new.input) (taken c.args.output.now) (taken c.lines.output)))
    c.from_residual-in_err-response.result fault c.from_residual-in_err-response.ensures.1
    (ends_failed_line fault c.in-Some.step c.lines.machine c.lines.lines c.advance.new.self
    (left c.args.input.now) (left c.lines.input)
    (left c.advance.new.input) (left c.play_line.new.input) (taken c.args.output.now)
    (taken c.lines.output)
    c.lines.invariant.played c.lines.invariant.over has c.in_ok-step.ensures.over
    (c.in_err-response.ensures.broken has.line has.is)
    (c.in_err-response.ensures.breaks has.line has.is) c.in_err-response.ensures.known
    (λ is. long_from first_place c.advance.new.self (left c.args.input.now)
    (left c.advance.new.input) takes refl
    (c.in_err-response.ensures.too_long is)))

pub returns-in_err-write_response-clause-ends : goal.returns-in_err-write_response-clause-ends
returns-in_err-write_response-clause-ends g c =
    let left = g.S.Source.left in
    let taken = g.K.Sink.taken in
    let has :
    HasLine c.in-Some.step c.lines.lines c.advance.new.self (left c.lines.input)
    (left c.advance.new.input) =
    subst (λ s.
    Comes s c.lines.lines c.advance.new.self (left c.lines.input) (left c.advance.new.input))
    c.in-Some.is c.in_ok-step.ensures.comes in
    let writes = c.in_err-write_response.ensures.writes in
    let part = writes.3 in
    let ends : Result Unit Fault → Type 0 = λ result. Told (left c.args.input.now)
    (Ends result (left c.play_line.new.input) (taken c.args.output.now)
    (taken c.write_response.new.output)) in
    at_err ends c.from_residual-in_err-write_response.result c.in_err-write_response.field-0.0
    c.from_residual-in_err-write_response.ensures.1
    (subst ends (sym c.in_err-write_response.ensures.only)
    (ends_part c.in-Some.step c.lines.machine c.play_line.new.machine c.lines.lines
    c.advance.new.self c.play_line.new.lines
    (left c.args.input.now) (left c.lines.input) (left c.advance.new.input)
    (left c.play_line.new.input)
    (taken c.args.output.now) (taken c.lines.output) (taken c.write_response.new.output) writes.0
    part.0
    c.lines.invariant.played has (c.in_ok-response.ensures.plays has.line has.is writes.0 writes.1)
    part.1 part.2))

pub lines-preserved : goal.lines-preserved
lines-preserved g c =
    let left = g.S.Source.left in
    let taken = g.K.Sink.taken in
    let has :
    HasLine c.in-Some.step c.lines.lines c.advance.new.self (left c.lines.input)
    (left c.advance.new.input) =
    subst (λ s.
    Comes s c.lines.lines c.advance.new.self (left c.lines.input) (left c.advance.new.input))
    c.in-Some.is c.in_ok-step.ensures.comes in
    let writes = c.in_ok-write_response.ensures.writes in
    record {
      played =
          plays_more c.in-Some.step c.lines.machine c.play_line.new.machine c.lines.lines
          c.advance.new.self c.play_line.new.lines
          (left c.args.input.now) (left c.lines.input) (left c.advance.new.input)
          (left c.play_line.new.input)
          (taken c.args.output.now) (taken c.lines.output) (taken c.write_response.new.output)
          writes.0
          c.lines.invariant.played has
          (c.in_ok-response.ensures.plays has.line has.is writes.0 writes.1) writes.2;
      over = over_more first_place c.advance.new.self c.play_line.new.lines (left c.args.input.now)
          (left c.advance.new.input) (left c.play_line.new.input)
          (over_more first_place c.lines.lines c.advance.new.self (left c.args.input.now)
          (left c.lines.input)
          (left c.advance.new.input) c.lines.invariant.over c.in_ok-step.ensures.over)
          c.in_ok-response.ensures.over;
      knows = c.play_line.ensures.end;
      takes = takes_more first_place c.advance.new.self c.play_line.new.lines
          (left c.args.input.now) (left c.advance.new.input) (left c.play_line.new.input)
          (takes_more first_place c.lines.lines c.advance.new.self (left c.args.input.now)
          (left c.lines.input)
          (left c.advance.new.input) c.lines.invariant.takes c.in_ok-step.ensures.takes)
          c.in_ok-response.ensures.takes;
      input_counted =
          omega (
            arith,
            c.lines.invariant.input_counted,
            c.in_ok-step.ensures.counted,
            c.in_ok-response.ensures.counted,
          );
      output_counted =
          omega (arith, c.lines.invariant.output_counted, c.in_ok-write_response.ensures.counted);
    }

pub returns-clause-ends : goal.returns-clause-ends
returns-clause-ends g c =
    let left = g.S.Source.left in
    let taken = g.K.Sink.taken in
    let end =
    subst (λ s.
    Comes s c.lines.lines c.advance.new.self (left c.lines.input) (left c.advance.new.input))
    c.in_default.is c.in_ok-step.ensures.comes in
    ends_whole c.lines.machine c.lines.lines (left c.args.input.now) (left c.lines.input)
    (taken c.args.output.now) (taken c.lines.output)
    c.lines.invariant.played end.end
    (short_at_end first_place c.advance.new.self (left c.args.input.now) (left c.advance.new.input)
    (takes_more first_place c.lines.lines c.advance.new.self (left c.args.input.now)
    (left c.lines.input)
    (left c.advance.new.input) c.lines.invariant.takes c.in_ok-step.ensures.takes) refl end.spent
    end.few)
    (left c.advance.new.input)

-- a line more was read
pub lines-smaller : goal.lines-smaller
lines-smaller g c =
    let left = g.S.Source.left in
    let has :
    HasLine c.in-Some.step c.lines.lines c.advance.new.self (left c.lines.input)
    (left c.advance.new.input) =
    subst (λ s.
    Comes s c.lines.lines c.advance.new.self (left c.lines.input) (left c.advance.new.input))
    c.in-Some.is c.in_ok-step.ensures.comes in
    let writes = c.in_ok-write_response.ensures.writes in
    let plays = c.in_ok-response.ensures.plays has.line has.is writes.0 writes.1 in
    omega (arith, has.nearer, plays.plays.passes.nearer)
