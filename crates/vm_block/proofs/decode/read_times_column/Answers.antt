-- Where the column breaks.
use Rattle.std.proofs.Common.{take, refl, pos, w64, arith}
use Rattle.std.proofs.lemmas.Int.{to_z_pos}
use Rattle.vm_block.specs.Block.BreaksAt.{no_times}
use Rattle.vm_block.proofs.Blocks.{moved_broken}
use Rattle.vm_block.proofs.Headers.{ranges}
use Rattle.vm_block.proofs.decode.read_times_column.Goals as goal

pub returns-in-Err-Broken-clause-broken : goal.returns-in-Err-Broken-clause-broken
returns-in-Err-Broken-clause-broken c =
    let h = c.args.header.now in
    let r = ranges h c.requires.header in
    let fault = rw c.in-Err-Broken.field-0-is at c.in-Err-Broken.ensures.broken in
    no_times c.in-Err-Broken.at
    (moved_broken h.times _ (pos h.first_time) h.count h.count _ (take h.times_len c.args.body.now)
    c.in-Err-Broken.at
    (to_z_pos w64 h.first_time (omega (arith, r.first_time))) refl refl fault.0) refl
