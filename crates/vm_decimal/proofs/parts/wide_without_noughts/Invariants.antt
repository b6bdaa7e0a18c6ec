use Rattle.std.proofs.Common.{◌≡◌, ◌*◌, ◌^◌, ◌<◌}
use Rattle.vm_decimal.proofs.parts.wide_without_noughts.Given as goal

abbrev pub invariant-noughts : goal.invariant-noughts
invariant-noughts l = record {
  some : 0 < l.size;
  whole : l.fn.size ≡ l.size * 10 ^ l.noughts;
}

abbrev pub decreases-noughts : goal.decreases-noughts
decreases-noughts l = l.size
