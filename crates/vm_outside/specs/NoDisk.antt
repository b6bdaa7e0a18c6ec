-- What is known of a disk that isn't there.
use Rattle.std.specs.Prelude.{◌≡◌, [], true, false}
use Rattle.std.proofs.Common.{true≢false, sym}
use Rattle.vm_outside.specs.Disk.{DiskState}
use Rattle.vm_outside.specs.declared.no_disk.NoDisk.{NoDisk}

-- what it tells: how many calls failed, and nothing else
abbrev pub state_of : NoDisk → DiskState
state_of disk = record {
  honest = false;
  reads = λ file. [];
  may_leave = λ file left. ⊥;
  moment = 0;
  left_since = λ since image. ⊥;
  read_faults = disk.read_faults;
  write_faults = disk.write_faults;
  bytes_read = 0;
}

-- it is not honest
pub never : false ≡ true → ⊥
never honest = true≢false (sym honest)
