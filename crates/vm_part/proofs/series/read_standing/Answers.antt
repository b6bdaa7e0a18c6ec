-- What is a block doesn't break.
use Rattle.std.proofs.Common.{◌≡◌, ℕ}
use Rattle.vm_block.specs.declared.fault.BlockFault.{BlockFault}
use Rattle.vm_block.specs.declared.fault.BlockFault.TheVariants.{Broken, Memory}
use Rattle.vm_part.proofs.series.read_standing.Goals as goal

never : (fault : BlockFault) (at : ℕ) → fault ≡ Broken at → fault ≡ Memory → ⊥
never fault at broken memory = cc

pub unreachable-requires : goal.unreachable-requires
unreachable-requires c =
    never c.in-Err-Broken.field-0 c.in-Err-Broken.field-0-0 c.in-Err-Broken.field-0-is
    (c.in-Err-Broken.ensures.only c.requires.0 c.requires.1)
