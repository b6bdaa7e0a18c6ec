-- What is read is the one reading.
use Rattle.std.proofs.Common.{◌≡◌, IfOk, IfErr, Ok, Err, ℕ, List, Result, refl}
use Rattle.vm_base.specs.declared.stamped.Stamped.{Stamped}
use Rattle.vm_block.specs.Block.{IsBlock, IsRefusal, Reads}
use Rattle.vm_block.specs.declared.fault.BlockFault.{BlockFault}
use Rattle.vm_block.specs.declared.fault.BlockFault.TheVariants.{Broken, Memory}
use Rattle.vm_block.specs.declared.header.BlockHeader.{BlockHeader}
use Rattle.vm_block.proofs.Blocks.{one_block, unbroken}
use Rattle.vm_block.proofs.decode.decode_block.Goals as goal

memory : (h : BlockHeader) (body : List ℕ) (fault : BlockFault) (samples : List Stamped)
    → IsRefusal h body fault → IsBlock h body samples → fault ≡ Memory
memory h body Memory samples refusal block = refl
memory h body (Broken at) samples refusal block = absurd (unbroken h body at samples block refusal)

only : (h : BlockHeader) (body : List ℕ) (r : Result (List Stamped) BlockFault)
    → IfOk r (IsBlock h body) → IfErr r (IsRefusal h body)
    → (samples : List Stamped) → IsBlock h body samples → Reads r samples
only h body (Ok read) is broken samples block = one_block h body read samples is block
only h body (Err fault) is broken samples block = memory h body fault samples broken block

pub returns-clause-only : goal.returns-clause-only
returns-clause-only c =
    only c.args.header.now c.args.body.now c.read_block.result c.read_block.ensures.block
    c.read_block.ensures.broken
