use Rattle.std.proofs.Common.{◌≡◌, ◌-◌, ◌*◌, ◌^◌, ◌<◌, ◌≤◌, take, length, unsigned_abs, pos}
use Rattle.vm_codec.specs.Coding.{IsInBounds}
use Rattle.vm_codec.specs.inner.Reading.{values_at, onto}
use Rattle.vm_codec.proofs.Values.{with_front}
use Rattle.vm_codec.proofs.reading.read_differences.Given as goal

abbrev pub invariant-loop-place : goal.invariant-loop-place
invariant-loop-place l = record {
  bound : IsInBounds l.value;
  lean : unsigned_abs l.lean < 2 * 10 ^ 18;
  shorter : length l.rest ≤ length l.bytes;
  read :
      with_front (take l.place l.into)
      (values_at l.coding (length l.into - l.place) l.value l.lean l.rest)
      ≡ onto l.first (values_at l.coding (length l.initial.into - 1) l.first (pos 0) l.bytes);
}
