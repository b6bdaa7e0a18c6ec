use Rattle.std.proofs.Common.{◌≤◌, ◌<◌, ◌^◌, take}
use Rattle.vm_decimal.specs.inner.Exact.{Gathers}
use Rattle.vm_decimal.proofs.exact.exact_digits.Given as goal

abbrev pub invariant-loop-byte : goal.invariant-loop-byte
invariant-loop-byte l = record {
  gathers : Gathers (take l.byte-index l.text) l.phase l.digits;
  few : l.digits.size < 10 ^ 38;
  short : l.digits.noughts ≤ l.byte-index;
}
