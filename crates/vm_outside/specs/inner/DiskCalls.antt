-- What a call leaves of a disk in memory, as its private functions say it.
use Rattle.std.specs.Prelude.{◌≡◌, ℕ, List, ◌∷◌}
use Rattle.vm_outside.specs.Disk.{Image}
use Rattle.vm_outside.specs.MemDisk.{replayed}
use Rattle.vm_outside.specs.MemDiskState.{first_of, files_of}
use Rattle.vm_outside.specs.declared.disk_call.DiskCall.{DiskCall}
use Rattle.vm_outside.specs.declared.mem_disk.MemDisk.{MemDisk}

-- A call that doesn't change what reads give.
abbrev pub IsStill : DiskCall → Type 0
IsStill call = (first : Image) (past : List DiskCall) (file : ℕ)
    → replayed first (call ∷ past) file ≡ replayed first past file

-- What the files hold and held at first stays, and so do the counts of faults and the calls that
-- are to fail.
pub record Keeps (old new : MemDisk) : Type 0 where
  pub first : first_of new ≡ first_of old
  pub files : files_of new ≡ files_of old
  pub failing : new.failing ≡ old.failing
  pub read_faults : new.read_faults ≡ old.read_faults
  pub write_faults : new.write_faults ≡ old.write_faults
