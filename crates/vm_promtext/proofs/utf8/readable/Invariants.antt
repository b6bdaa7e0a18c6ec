use Rattle.std.proofs.Common.{◌≡◌, ◌+◌, drop}
use Rattle.vm_promtext.specs.Utf8.{readable, nothing}
use Rattle.vm_promtext.proofs.utf8.readable.Given as goal

abbrev pub invariant-loop-at : goal.invariant-loop-at
invariant-loop-at l = readable nothing l.text ≡ l.at + readable l.wanted (drop l.at l.text)
