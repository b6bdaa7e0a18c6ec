use Rattle.std.proofs.Common.{◌≡◌, ◌-◌, length}
use Rattle.vm_promtext.specs.Reading.{braces_reading}
use Rattle.vm_promtext.proofs.labels.read_braces.Given as goal

abbrev pub invariant-loop-pair : goal.invariant-loop-pair
invariant-loop-pair l =
    braces_reading (length l.fn.text) l.fn.pairs l.fn.text
    ≡ braces_reading (length l.fn.text - l._pair) l.pairs l.rest
