use Rattle.std.proofs.Common.{◌≡◌, ◌+◌, ◌*◌, ◌^◌, ◌<◌, ◌≤◌, drop, length, unsigned_abs, pos, slice_index_or}
use Rattle.vm_codec.specs.Coding.{IsInBounds}
use Rattle.vm_codec.proofs.Columns.{spelled_from}
use Rattle.vm_codec.proofs.choosing.spelling_len.Given as goal

abbrev pub invariant-loop-place : goal.invariant-loop-place
invariant-loop-place l = record {
  bound : IsInBounds l.value;
  lean : unsigned_abs l.lean < 2 * 10 ^ 18;
  room : l.len + 10 ≤ 10 * l.place;
  total :
      l.len + length (spelled_from l.coding l.value l.lean (drop l.place l.values))
      ≡ length
      (spelled_from l.coding (slice_index_or l.values 0 (pos 0)) (pos 0) (drop 1 l.values));
}
