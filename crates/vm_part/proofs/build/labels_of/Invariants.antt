use Rattle.std.proofs.Common.{◌≡◌, map}
use Rattle.vm_series.specs.declared.series.Series.{Series}
use Rattle.vm_part.proofs.build.labels_of.Given as goal

abbrev pub invariant-loop-one : goal.invariant-loop-one
invariant-loop-one l = l.sets ≡ map (λ (one : Series). one.labels) l.yielded
