use Rattle.std.proofs.Common.{◌≡◌, ◌-◌, None}
use Rattle.std.specs.Prelude.{option_copied}
use Rattle.vm_labels.specs.Bytes.{pairs_at}
use Rattle.vm_labels.proofs.ReadLoop.{with_front}
use Rattle.vm_labels.proofs.bytes.pairs_at.Given as goal

abbrev pub invariant-loop : goal.invariant-loop
invariant-loop l =
    with_front l.pairs.items (pairs_at (l.count - l.counter) (option_copied l.last) l.rest)
    ≡ pairs_at l.count None l.bytes
