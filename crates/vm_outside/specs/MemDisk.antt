-- What reads give of a disk in memory, and what a crash may leave of it: both follow from what its
-- files held at first and from the record of its calls, which is taken from the last one back.
use Rattle.std.specs.Prelude.{◌≤◌, ℕ, ◌+◌, ◌^◌, Bool, true, false, nat_le, nat_eq, if◌then◌else◌, List, [], ◌∷◌, ◌++◌, length, take, drop, ◌⊎◌}
use Rattle.vm_outside.specs.Disk.{Image, Each}
use Rattle.vm_outside.specs.Unsynced.{IsLeft, all_synced, after_write, after_drop}
use Rattle.vm_outside.specs.declared.unsynced.Unsynced.{Unsynced}
use Rattle.vm_outside.specs.declared.disk_call.DiskCall.{DiskCall}
use Rattle.vm_outside.specs.declared.disk_call.DiskCall.TheVariants.{Len, Read, Write, Sync, DropFile}

-- bytes with these put at a place that doesn't lie past their end
abbrev pub written : ℕ → List ℕ → List ℕ → List ℕ
written at bytes old = if nat_le at (length old) then take at old ++ bytes
    ++ drop (at + length bytes) old else old

-- the file that a call means
abbrev pub file_of : DiskCall → ℕ
file_of (Len f) = f
file_of (Read f at n) = f
file_of (Write f at bytes done) = f
file_of (Sync f done) = f
file_of (DropFile f done) = f

-- what reads give of a file after these calls, the last one first
abbrev pub replayed : Image → List DiskCall → Image
replayed first [] file = first file
replayed first (Len f ∷ past) file = replayed first past file
replayed first (Read f at n ∷ past) file = replayed first past file
replayed first (Write f at bytes true ∷ past) file =
    if nat_eq f file then written at bytes (replayed first past file) else replayed first past file
replayed first (Write f at bytes false ∷ past) file = replayed first past file
replayed first (Sync f done ∷ past) file = replayed first past file
replayed first (DropFile f true ∷ past) file = if nat_eq f file then []
    else replayed first past file
replayed first (DropFile f false ∷ past) file = replayed first past file

-- what is unsynced of a file after these calls, the last one first
abbrev pub unsynced : Image → List DiskCall → ℕ → Unsynced
unsynced first [] file = all_synced (first file)
unsynced first (Len f ∷ past) file = unsynced first past file
unsynced first (Read f at n ∷ past) file = unsynced first past file
unsynced first (Write f at bytes done ∷ past) file =
    if nat_eq f file then after_write at (length bytes) (unsynced first past file)
    else unsynced first past file
unsynced first (Sync f true ∷ past) file =
    if nat_eq f file then all_synced (replayed first past file) else unsynced first past file
unsynced first (Sync f false ∷ past) file = unsynced first past file
unsynced first (DropFile f done ∷ past) file =
    if nat_eq f file then after_drop (unsynced first past file) else unsynced first past file

-- what a crash after these calls may leave of a file
abbrev pub remains : Image → List DiskCall → ℕ → List ℕ → Type 0
remains first past file left = IsLeft (unsynced first past file) left

-- what a crash may have left since the moment after so many calls
abbrev pub remains_since : Image → ℕ → List DiskCall → Image → Type 0
remains_since first since [] image = Each (remains first []) image
remains_since first since (call ∷ past) image =
    Each (remains first (call ∷ past)) image
    ⊎ ((since ≤ length past) × remains_since first since past image)

-- how many bytes the reads gave
abbrev pub given : List DiskCall → ℕ
given [] = 0
given (Len f ∷ past) = given past
given (Read f at n ∷ past) = given past + n
given (Write f at bytes done ∷ past) = given past
given (Sync f done ∷ past) = given past
given (DropFile f done ∷ past) = given past

-- A write ends below 2^62, as each call must.
abbrev pub fits : DiskCall → Bool
fits (Len f) = true
fits (Read f at n) = true
fits (Write f at bytes done) = nat_le (at + length bytes) (2 ^ 62)
fits (Sync f done) = true
fits (DropFile f done) = true
