use Rattle.std.proofs.Common.{arith}
use Rattle.vm_decimal.proofs.Sizes.{more_noughts}
use Rattle.vm_decimal.proofs.parts.raised.Goals as goal

pub returns-then-gap-gt38-clause-wide : goal.returns-then-gap-gt38-clause-wide
returns-then-gap-gt38-clause-wide c =
    omega (arith, more_noughts c.args.size 39 c.args.gap (omega arith) (omega arith))
