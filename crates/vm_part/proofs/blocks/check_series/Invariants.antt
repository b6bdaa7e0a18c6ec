use Rattle.vm_part.proofs.BlockLaws.{SoFar}
use Rattle.vm_part.proofs.blocks.check_series.Given as goal

abbrev pub invariant-each : goal.invariant-each
invariant-each l = SoFar l.bytes l.blocks_end l.entry l.at l.counter l.seen
