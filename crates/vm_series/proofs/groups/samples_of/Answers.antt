use Rattle.std.proofs.Common.{ap, ◌∙◌, arith}
use Rattle.std.proofs.Math.Seq.{take_all}
use Rattle.vm_base.specs.Sorted.{sorted}
use Rattle.vm_base.specs.Stamped.{is_in_order}
use Rattle.vm_base.proofs.StampedLaws.{sorted_from_stamped_sort}
use Rattle.vm_series.specs.inner.Pieces.{samples_of}
use Rattle.vm_series.proofs.groups.samples_of.Goals as goal

pub returns : goal.returns
returns c =
    sorted_from_stamped_sort c.loop-piece.all.items c.sort.new.self.items
    c.in_ok-sort.ensures.permutation c.in_ok-sort.ensures.sorted
    ∙ ap (sorted is_in_order)
    (c.loop-piece.invariant
    ∙ ap samples_of (take_all c.loop-piece.piece-index c.args.pieces.now (omega arith)))
