use Rattle.std.proofs.Common.{◌≡◌, take}
use Rattle.vm_series.specs.inner.Pieces.{samples_of}
use Rattle.vm_series.proofs.groups.samples_of.Given as goal

abbrev pub invariant-loop-piece : goal.invariant-loop-piece
invariant-loop-piece l = l.all.items ≡ samples_of (take l.piece-index l.pieces)
