use Rattle.std.proofs.Common.{Some, sym, ap, subst, ◌∙◌}
use Rattle.std.specs.Option.{option_map}
use Rattle.vm_top.specs.Statuses.{IsDoneBy, outcome}
use Rattle.vm_top.specs.World.{world}
use Rattle.vm_top.specs.inner.Asked.{task_of}
use Rattle.vm_top.proofs.DoneLaws.{replay_done}
use Rattle.vm_top.proofs.command.run.Goals as goal

pub returns-in-Some-Replay-clause-done : goal.returns-in-Some-Replay-clause-done
returns-in-Some-Replay-clause-done g c =
    let clock = g.C.Clock.answers c.args.clock.now in
    let left = g.S.Source.left in
    let faults = g.S.Source.faults in
    let taken = g.K.Sink.taken in
    let lost = g.K.Sink.faults in
    let input = c.args.input.now in
    let output = c.args.output.now in
    let read = c.play.new.input in
    let written = c.play.new.output in
    subst (λ task.
    IsDoneBy task (outcome c.play.result)
    (world clock (left input) (faults input) (taken output) (lost output))
    (world clock (left read) (faults read) (taken written) (lost written)))
    (ap (option_map task_of) (ap Some (sym c.in-Some-Replay.field-0-is) ∙ sym c.in-Some-Replay.is)
    ∙ c.asked.ensures.value)
    (replay_done c.play.result clock (left input) (left read) (taken output) (taken written)
    (faults input) (faults read) (lost output) (lost written)
    c.play.ensures.ends c.play.ensures.read c.play.ensures.known c.play.ensures.input_fault
    c.play.ensures.output_fault)
