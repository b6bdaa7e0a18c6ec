-- The bytes are a header, so they are 40.
use Rattle.std.proofs.Common.{length, ap, arith}
use Rattle.vm_block.proofs.Rereading.{header_len}
use Rattle.vm_part.proofs.series.header_at.Goals as goal

pub copy_from_slice-requires : goal.copy_from_slice-requires
copy_from_slice-requires c =
    omega (arith, ap length c.requires.spelled, header_len c.requires.header)
