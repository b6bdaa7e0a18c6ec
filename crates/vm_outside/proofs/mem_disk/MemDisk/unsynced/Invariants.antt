use Rattle.std.proofs.Common.{◌≡◌, take, reverse}
use Rattle.vm_outside.specs.Files.{content}
use Rattle.vm_outside.specs.MemDisk.{unsynced, replayed}
use Rattle.vm_outside.proofs.mem_disk.MemDisk.unsynced.Given as goal

abbrev pub invariant-loop-call : goal.invariant-loop-call
invariant-loop-call l =
    (unsynced (content l.fn.self.first) (reverse (take l.call-index l.call-items)) l.fn.file
    ≡ l.left)
    × (replayed (content l.fn.self.first) (reverse (take l.call-index l.call-items)) l.fn.file
    ≡ l.held.items)
