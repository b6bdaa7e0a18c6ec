-- Eighteen zeros are too many.
use Rattle.std.proofs.Common.{arith}
use Rattle.vm_block.proofs.Exponents.{far_raised}
use Rattle.vm_block.proofs.shared.raised.Goals as goal

pub returns-then-noughts-ge-SAMPLE_DIGITS : goal.returns-then-noughts-ge-SAMPLE_DIGITS
returns-then-noughts-ge-SAMPLE_DIGITS c =
    far_raised c.args.size c.args.noughts c.requires (omega arith)
