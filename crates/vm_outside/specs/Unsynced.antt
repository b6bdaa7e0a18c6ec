-- What a crash may leave of a file between two syncs.
use Rattle.std.specs.Prelude.{◌≡◌, ◌≤◌, ◌<◌, ℕ, ◌+◌, max, Bool, false, ◌&&◌, ◌||◌, nat_le, nat_lt, if◌then◌else◌, List, [], ◌∷◌, length, slice_get}
use Rattle.vm_outside.specs.declared.unsynced.Unsynced.{Unsynced}

-- The place lies in one of the ranges.
abbrev pub is_in : List (ℕ × ℕ) → ℕ → Bool
is_in [] i = false
is_in (range ∷ ranges) i = nat_le range.0 i && nat_lt i (range.0 + range.1) || is_in ranges i

-- What a crash may leave of it: any bytes in the ranges and the synced bytes elsewhere, in any
-- length from the synced one to the greatest.
pub record IsLeft (file : Unsynced) (left : List ℕ) : Type 0 where
  pub no_shorter : length file.synced ≤ length left
  pub no_longer : length left ≤ file.longest
  pub elsewhere : (i : ℕ) → i < length left → is_in file.ranges i ≡ false
      → slice_get left i ≡ slice_get file.synced i

-- a file after a sync
abbrev pub all_synced : List ℕ → Unsynced
all_synced bytes = record { synced = bytes; ranges = []; longest = length bytes }

-- a file after a write of n bytes at a place, done or not, that doesn't lie past the file's end
abbrev pub after_write : ℕ → ℕ → Unsynced → Unsynced
after_write at n file = if nat_le at file.longest then
    record {
      synced = file.synced;
      ranges = (at, n) ∷ file.ranges;
      longest = max file.longest (at + n);
    }
    else file

-- a file after it was dropped, or was to be
abbrev pub after_drop : Unsynced → Unsynced
after_drop file = record { synced = []; ranges = (0, file.longest) ∷ []; longest = file.longest }
