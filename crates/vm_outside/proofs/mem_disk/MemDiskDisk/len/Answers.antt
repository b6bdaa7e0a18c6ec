use Rattle.vm_outside.specs.declared.disk_call.DiskCall.TheVariants.{Len}
use Rattle.vm_outside.proofs.RecordLaws.{passes, may_elapse}
use Rattle.vm_outside.specs.Files.{content}
use Rattle.vm_outside.proofs.mem_disk.MemDiskDisk.len.Goals as goal

pub returns-then-begin-clause-time : goal.returns-then-begin-clause-time
returns-then-begin-clause-time c =
    passes _ _ (may_elapse (content c.args.self.now.first) (content c.fail_read.new.self.first)
    c.args.self.now.calls.items c.fail_read.new.self.calls.items (Len c.args.file)
    c.fail_read.ensures.kept.0 c.fail_read.ensures.may_note)
