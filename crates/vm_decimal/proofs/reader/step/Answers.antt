use Rattle.std.proofs.Common.{sym}
use Rattle.vm_decimal.specs.NumberMachine.{taken}
use Rattle.vm_decimal.proofs.Readers.{step_on}
use Rattle.vm_decimal.proofs.reader.step.Goals as goal

pub returns-in-Some-clause-steps : goal.returns-in-Some-clause-steps
returns-in-Some-clause-steps c s stands = (
  taken s c.in-Some.phase c.symbol_of-symbol.result,
  step_on s c.args.byte c.args.reader.now.phase c.in-Some.phase c.symbol_of-symbol.result
      stands.phase
      c.symbol_of-symbol.ensures (sym c.in-Some.ensures),
  c.take.ensures.stands s stands,
)
