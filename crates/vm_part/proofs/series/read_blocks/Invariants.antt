use Rattle.std.proofs.Common.{◌-◌, List}
use Rattle.vm_part.specs.Part.{Block}
use Rattle.vm_part.specs.inner.Standing.{StandAt}
use Rattle.vm_part.proofs.SampleLaws.{RestOf}
use Rattle.vm_part.proofs.series.read_blocks.Given as goal

abbrev pub invariant-reading : goal.invariant-reading
invariant-reading l =
    (blocks : List Block) → StandAt l.fn.bytes l.fn.entry blocks
    → RestOf blocks l.samples.items l.rest (l.fn.entry.blocks - l._block)
