-- One piece more.
use Rattle.std.proofs.Common.{flat_map, ◌∙◌}
use Rattle.vm_series.specs.Series.{rows_of_piece}
use Rattle.vm_part.proofs.MergeLaws.{one_piece}
use Rattle.vm_part.proofs.merging.put_pieces.Goals as goal

pub loop-at-preserved : goal.loop-at-preserved
loop-at-preserved c =
    one_piece (flat_map rows_of_piece c.args.pieces.now.items) c.loop-at.pieces.items
    c.push.new.self.items c.piece_of-piece.result
    c.args.sets.now c.args.samples.now c.loop-at.at c.index-sets-at.result c.index-samples-at.result
    c.loop-at-test.true c.requires
    (c.piece_of-piece.ensures.labels ∙ c.index-sets-at.is)
    (c.piece_of-piece.ensures.samples ∙ c.as_slice.ensures ∙ c.index-samples-at.is)
    c.in_ok-push.ensures.items c.loop-at.invariant
