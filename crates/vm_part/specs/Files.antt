-- A part on its way into a file, and a part that stands in one.
use Rattle.std.specs.Prelude.{◌≡◌, ℕ, ◌+◌, ◌-◌, ◌≤◌, ◌<◌, min, List, length, take, ⊤}
use Rattle.vm_outside.specs.Disk.{Image}
use Rattle.vm_part.specs.Broken.{Breaks}
use Rattle.vm_part.specs.Said.{Kept}
use Rattle.vm_part.specs.declared.fault.PartFault.{PartFault}
use Rattle.vm_part.specs.declared.fault.PartFault.TheVariants.{Damaged, DiskFault, Memory}
use Rattle.vm_part.specs.declared.writer.Writing.{Writing}
use Rattle.vm_part.specs.declared.writer.Writing.TheVariants.{More, Synced}

-- a part and the number of its file
pub record InFile : Type 0 where
  pub file : ℕ
  pub part : Kept

-- ---- writing

-- a part, the number of the file that it is written to, and how many of its bytes were written
pub record Begun : Type 0 where
  pub file : ℕ
  pub part : Kept
  pub done : ℕ

-- how many bytes the next write puts: as many as the longest block has, or all that are left
abbrev pub next_len : Begun → ℕ
next_len begun = min 163880 (length begun.part.bytes - begun.done)

-- after that write
abbrev pub written_on : Begun → Begun
written_on begun =
    record { file = begun.file; part = begun.part; done = begun.done + next_len begun }

-- What was written stands in the file, and behind it there is nothing that the next write doesn't
-- put over.
pub record HasWritten (begun : Begun) (files : Image) : Type 0 where
  pub within : length (files begun.file) ≤ begun.done + next_len begun
  pub written : take begun.done (files begun.file) ≡ take begun.done begun.part.bytes

-- what a step answers: it wrote some bytes, or it synced where none were left
abbrev pub IsStep : Begun → Begun → Writing → Type 0
IsStep old new More = (0 < next_len old) × (new ≡ written_on old)
IsStep old new Synced = (next_len old ≡ 0) × (new ≡ old)

-- once it is synced, a crash leaves the part whole
abbrev pub IsDurable : Begun → (ℕ → List ℕ → Type 0) → Writing → Type 0
IsDurable begun may_leave More = ⊤
IsDurable begun may_leave Synced = (left : List ℕ) → may_leave begun.file left
    → left ≡ begun.part.bytes

-- ---- opening

-- The part stands in the file of this number, and has so many bytes.
pub record IsOpened (number size : ℕ) (opened : InFile) : Type 0 where
  pub file : opened.file ≡ number
  pub len : length opened.part.bytes ≡ size

-- why a file gives no part of so many bytes: it says which file, and where the bytes break
abbrev pub IsFileFault : ℕ → ℕ → List ℕ → PartFault → Type 0
IsFileFault file len bytes (Damaged damaged at) = (damaged ≡ file) × Breaks len bytes at
IsFileFault file len bytes DiskFault = ⊤
IsFileFault file len bytes Memory = ⊤

-- what some bytes are why it is damaged
abbrev pub IsDamage : ℕ → ℕ → PartFault → Type 0
IsDamage file len (Damaged damaged at) = (damaged ≡ file) × (bytes : List ℕ) × Breaks len bytes at
IsDamage file len DiskFault = ⊤
IsDamage file len Memory = ⊤

-- a fault that isn't in the bytes of a file
abbrev pub IsNoDamage : PartFault → Type 0
IsNoDamage (Damaged damaged at) = ⊥
IsNoDamage DiskFault = ⊤
IsNoDamage Memory = ⊤
