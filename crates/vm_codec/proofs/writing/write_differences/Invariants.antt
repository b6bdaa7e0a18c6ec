use Rattle.std.proofs.Common.{◌≡◌, ◌+◌, ◌*◌, ◌^◌, ◌<◌, ◌≤◌, ◌++◌, take, drop, unsigned_abs, pos, slice_index_or}
use Rattle.vm_codec.specs.Coding.{IsInBounds}
use Rattle.vm_codec.proofs.Columns.{spelled_from}
use Rattle.vm_codec.proofs.writing.write_differences.Given as goal

abbrev pub invariant-loop-place : goal.invariant-loop-place
invariant-loop-place l = record {
  bound : IsInBounds l.value;
  lean : unsigned_abs l.lean < 2 * 10 ^ 18;
  room : l.end + 10 ≤ 10 * l.place;
  front :
      take l.end l.into ++ spelled_from l.coding l.value l.lean (drop l.place l.values)
      ≡ spelled_from l.coding (slice_index_or l.values 0 (pos 0)) (pos 0) (drop 1 l.values);
  back : drop l.end l.into ≡ drop l.end l.initial.into;
}
