use Rattle.std.proofs.Common.{arith}
use Rattle.vm_base.proofs.Noughts.{far_above}
use Rattle.vm_base.proofs.sizes.compare_raised.Goals as goal

pub returns-then-gap-ge-SAMPLE_DIGITS : goal.returns-then-gap-ge-SAMPLE_DIGITS
returns-then-gap-ge-SAMPLE_DIGITS c =
    far_above c.args.size c.args.gap c.args.other (omega arith) (omega arith) c.requires.other
