use Rattle.std.proofs.Common.{◌≡◌, ◌-◌, ◌∷◌, take, length}
use Rattle.std.specs.Option.{option_map}
use Rattle.vm_codec.specs.inner.Reading.{steps_from}
use Rattle.vm_codec.proofs.Values.{behind_values}
use Rattle.vm_codec.proofs.reading.fill_steps.Given as goal

abbrev pub invariant-loop-place : goal.invariant-loop-place
invariant-loop-place l =
    behind_values (take l.place l.into) (steps_from (length l.into - l.place) l.value l.step)
    ≡ option_map (λ others. l.first ∷ others)
    (steps_from (length l.initial.into - 1) l.first l.step)
