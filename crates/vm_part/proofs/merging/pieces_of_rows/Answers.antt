-- The piece of one row more.
use Rattle.std.proofs.Common.{◌≡◌, ◌+◌, ◌-◌, arith}
use Rattle.vm_part.proofs.MergeLaws.{one_row}
use Rattle.vm_part.proofs.merging.pieces_of_rows.Goals as goal

pub loop-at-preserved : goal.loop-at-preserved
loop-at-preserved c =
    let at = c.loop-at.at in
    let len = at + 1 - at in
    let one : len ≡ 1 = omega arith in
    one_row c.loop-at.pieces.items c.push.new.self.items c.piece_of-piece.result c.args.batch.now
    c.args.samples.now at len c.index-batch-at.result
    c.loop-at-test.true c.requires one c.piece_of-piece.ensures.labels
    c.piece_of-piece.ensures.samples c.in_ok-push.ensures.items c.loop-at.invariant
