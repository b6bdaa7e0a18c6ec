-- The times at both ends, and the first mantissa.
use Rattle.std.proofs.Common.{refl, arith}
use Rattle.vm_block.proofs.Writing.{time_at}
use Rattle.vm_block.proofs.encode.header_of.Goals as goal

pub returns-clause-first_time : goal.returns-clause-first_time
returns-clause-first_time c =
    time_at c.args.samples.now 0 c.index-samples-0.result _ (omega (arith, c.requires.some)) refl

pub returns-clause-last_time : goal.returns-clause-last_time
returns-clause-last_time c =
    time_at c.args.samples.now _ c.index-samples-samples.result _ (omega (arith, c.requires.some))
    refl
