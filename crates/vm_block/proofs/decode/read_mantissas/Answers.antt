-- Where the column breaks.
use Rattle.std.proofs.Common.{drop, refl, w64, arith, rules, length-drop}
use Rattle.std.proofs.lemmas.Int.{to_z-of_z}
use Rattle.std.proofs.lemmas.List.{take_all}
use Rattle.vm_block.specs.Block.BreaksAt.{no_mantissas}
use Rattle.vm_block.proofs.Blocks.{moved_broken}
use Rattle.vm_block.proofs.decode.read_mantissas.Goals as goal

pub returns-in-Err-Broken-clause-broken : goal.returns-in-Err-Broken-clause-broken
returns-in-Err-Broken-clause-broken c =
    let h = c.args.header.now in
    let rest = drop h.times_len c.args.body.now in
    let fault = rw c.in-Err-Broken.field-0-is at c.in-Err-Broken.ensures.broken in
    no_mantissas c.args.times.now c.requires.times c.requires.rise c.requires.last
    c.in-Err-Broken.at
    (moved_broken h.values _ h.first_m h.count h.count _ rest c.in-Err-Broken.at
    (to_z-of_z w64 h.first_m (search rules)) refl
    (take_all _ rest (omega (arith, length-drop h.times_len c.args.body.now))) fault.0) refl
