-- One part more.
use Rattle.std.proofs.Common.{◌≡◌, ◌+◌, take, map, sym, subst}
use Rattle.vm_part.specs.inner.Merging.{AreRead}
use Rattle.vm_part.specs.Part.{samples_of}
use Rattle.vm_part.specs.Said.{Says}
use Rattle.vm_part.proofs.MergeLaws.{kept, one_part_read}
use Rattle.vm_part.proofs.merging.read_parts.Goals as goal

pub loop-part-preserved : goal.loop-part-preserved
loop-part-preserved c =
    let parts = c.args.parts.now in
    let samples = c.in_ok-samples.samples in
    let says =
    subst (λ k. Says k (λ all. map samples_of all ≡ samples)) c.deref.ensures
    c.in_ok-samples.ensures in
    subst (λ read. AreRead (map kept (take (c.loop-part.part-index + 1) parts)) read)
    (sym c.in_ok-push.ensures.ok)
    (one_part_read kept parts c.loop-part.part-index c.part-item.result c.loop-part.read samples
    c.loop-part-test.true c.part-item.is
    c.loop-part.invariant says)
