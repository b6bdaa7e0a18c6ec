use Rattle.std.proofs.Common.{subst}
use Rattle.vm_machine.specs.Eval.{instant}
use Rattle.vm_machine.specs.Machine.{Steps, end, values, as_answer}
use Rattle.vm_top.proofs.ActLaws.{ended}
use Rattle.vm_top.proofs.act.end_run.Goals as goal

pub returns-in-Ok-clause-answers : goal.returns-in-Ok-clause-answers
returns-in-Ok-clause-answers c = λ text prints.
    let before = c.args.machine.now in
    let steps =
    subst (λ given.
    Steps instant before (end c.args.run) c.end.new.self (as_answer values given))
    c.in-Ok.is c.end.ensures.step in
    ended before c.end.new.self c.args.run _ text steps prints
