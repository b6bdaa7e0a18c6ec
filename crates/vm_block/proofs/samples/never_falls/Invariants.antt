use Rattle.std.proofs.Common.{◌≡◌, drop}
use Rattle.vm_block.specs.inner.Reading.{never_falls}
use Rattle.vm_block.proofs.samples.never_falls.Given as goal

abbrev pub invariant-loop-sample : goal.invariant-loop-sample
invariant-loop-sample l =
    never_falls l.last (drop l.sample-index l.samples) ≡ never_falls l.fn.first l.fn.samples
