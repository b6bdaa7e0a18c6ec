-- What the files of a disk in memory hold.
use Rattle.std.specs.Prelude.{ℕ, List, [], Option, Some, None}
use Rattle.std.specs.BTreeMap.{get}
use Rattle.std.specs.Ordering.{nat_cmp}
use Rattle.std.specs.declared.vec.Vec.{Vec}
use Rattle.std.specs.declared.alloc.Global.{Global}
use Rattle.vm_outside.specs.Disk.{Image}
use Rattle.vm_outside.specs.declared.mem_files.Files.{Files}

-- a file's bytes, and none of a file that isn't there
abbrev pub held : Option (Vec ℕ Global) → List ℕ
held None = []
held (Some bytes) = bytes.items

-- the bytes of each file
abbrev pub content : Files → Image
content files file = held (get nat_cmp files.by_number file)
