use Rattle.std.proofs.Common.{◌+◌, ◌-◌, sym, arith}
use Rattle.vm_outside.proofs.Pieces.{piece_then_rest}
use Rattle.vm_outside.proofs.mem_source.MemSourceSource.read.Goals as goal

-- what the buffer begins with, and what is left then, is what was left
pub returns-clause-moved : goal.returns-clause-moved
returns-clause-moved c =
    let copied = rw c.deref.ensures.value at c.copy_from_slice.ensures.after in
    let n = c.min-n.result in
    let at = c.args.self.now.at in
    let bytes = c.args.self.now.bytes.items in
    sym (piece_then_rest bytes _ _ at n (at + n - at) copied (omega arith) (omega arith))
