-- What is known of a disk in memory, and how its calls are written down.
use Rattle.std.specs.Prelude.{◌≡◌, ℕ, List, [], ◌∷◌, ◌++◌, ◌⊎◌, reverse, length, Bool, true, false, Result, Ok, Err}
use Rattle.vm_outside.specs.Disk.{Image, DiskState}
use Rattle.vm_outside.specs.FailingCalls.{FailsNext, GoesOn}
use Rattle.vm_outside.specs.Files.{content}
use Rattle.vm_outside.specs.MemDisk.{remains, remains_since, given}
use Rattle.vm_outside.specs.declared.disk_call.DiskCall.{DiskCall}
use Rattle.vm_outside.specs.declared.mem_disk.MemDisk.{MemDisk}

-- the calls so far
abbrev pub calls_of : MemDisk → List DiskCall
calls_of disk = disk.calls.items

-- what the files held at first
abbrev pub first_of : MemDisk → Image
first_of disk = content disk.first

-- what the files hold
abbrev pub files_of : MemDisk → Image
files_of disk = content disk.files

-- what it tells: all follows from what its files held at first and from its calls
abbrev pub state_of : MemDisk → DiskState
state_of disk = record {
  honest = true;
  reads = files_of disk;
  may_leave = λ file left. remains (first_of disk) (reverse (calls_of disk)) file left;
  moment = length (calls_of disk);
  left_since = λ since image. remains_since (first_of disk) since (reverse (calls_of disk)) image;
  read_faults = disk.read_faults;
  write_faults = disk.write_faults;
  bytes_read = given (reverse (calls_of disk));
}

-- how many bytes a read gave
abbrev pub given_by : {E : Type 0} → Result ℕ E → ℕ
given_by (Ok n) = n
given_by (Err e) = 0

-- The call is written down.
abbrev pub Notes : DiskCall → MemDisk → MemDisk → Type 0
Notes call old new = calls_of new ≡ calls_of old ++ call ∷ []

-- The call is written down, or none is.
abbrev pub MayNote : DiskCall → MemDisk → MemDisk → Type 0
MayNote call old new = Notes call old new ⊎ (calls_of new ≡ calls_of old)

-- A call was made, and done or not: it is written down as what it was. One that wasn't done at all,
-- because memory ran out, isn't written down. It failed if it was to fail.
pub record IsMade (done failed : DiskCall) (is_done : Bool) (old new : MemDisk) : Type 0 where
  pub noted : is_done ≡ true → Notes done old new
  pub not_done : is_done ≡ false → MayNote failed old new
  pub chosen : FailsNext old.failing → is_done ≡ false
  pub goes_on : GoesOn old.failing new.failing
  pub first : first_of new ≡ first_of old
