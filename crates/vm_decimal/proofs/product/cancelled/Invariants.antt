use Rattle.std.proofs.Common.{◌≡◌, ◌*◌, ◌^◌, ◌<◌}
use Rattle.vm_decimal.proofs.product.cancelled.Given as goal

abbrev pub invariant-tens : goal.invariant-tens
invariant-tens l = record {
  some : 0 < l.twos;
  some_too : 0 < l.fives;
  twos_out : l.fn.twos ≡ l.twos * 2 ^ l.tens;
  fives_out : l.fn.fives ≡ l.fives * 5 ^ l.tens;
}

abbrev pub decreases-tens : goal.decreases-tens
decreases-tens l = l.twos
