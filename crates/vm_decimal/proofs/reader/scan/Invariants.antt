use Rattle.std.proofs.Common.{take}
use Rattle.vm_decimal.specs.inner.Reader.{Comes, Counts}
use Rattle.vm_decimal.proofs.reader.scan.Given as goal

abbrev pub invariant-loop-at : goal.invariant-loop-at
invariant-loop-at l = record {
  comes : Comes (take l.at l.text) l.reader;
  counts : Counts l.reader l.at;
}
