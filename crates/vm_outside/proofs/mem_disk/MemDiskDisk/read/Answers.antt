use Rattle.vm_outside.specs.declared.disk_call.DiskCall.TheVariants.{Read}
use Rattle.vm_outside.proofs.RecordLaws.{passes, may_elapse, noted_elapses}
use Rattle.vm_outside.specs.Files.{content}
use Rattle.vm_outside.proofs.mem_disk.MemDiskDisk.read.Goals as goal

pub returns-then-begin-clause-time : goal.returns-then-begin-clause-time
returns-then-begin-clause-time c =
    passes _ _ (may_elapse (content c.args.self.now.first) (content c.fail_read.new.self.first)
    c.args.self.now.calls.items c.fail_read.new.self.calls.items (Read c.args.file c.args.at 0)
    c.fail_read.ensures.kept.0 c.fail_read.ensures.may_note)

pub returns-in-Ok-clause-time : goal.returns-in-Ok-clause-time
returns-in-Ok-clause-time c =
    passes _ _ (noted_elapses (content c.args.self.now.first) (content c.note.new.self.first)
    c.args.self.now.calls.items c.note.new.self.calls.items
    (Read c.args.file c.args.at c.give-n.result) c.note.ensures.keeps.first
    c.in-Ok.ensures.noted)
