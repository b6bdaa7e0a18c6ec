use Rattle.std.proofs.Common.{◌≡◌, ◌-◌, ◌^◌, ◌<◌, ◌≤◌, length}
use Rattle.vm_codec.specs.inner.Reading.{groups_at, number_at}
use Rattle.vm_codec.specs.inner.Reading.{behind, in_64_bits}
use Rattle.vm_codec.proofs.integer.read_number.Given as goal

abbrev pub invariant-loop-place : goal.invariant-loop-place
invariant-loop-place l = record {
  scale : l.scale ≡ 128 ^ l.place;
  below : l.number < l.scale;
  shorter : length l.rest ≤ length l.bytes;
  read : in_64_bits (behind l.place l.number l.scale (groups_at (10 - l.place) l.rest))
      ≡ number_at l.bytes;
}
