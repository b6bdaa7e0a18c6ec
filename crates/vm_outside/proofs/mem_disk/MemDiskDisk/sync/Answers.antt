use Rattle.std.proofs.Common.{rules, refl, true, false}
use Rattle.vm_outside.specs.declared.disk_call.DiskCall.TheVariants.{Sync}
use Rattle.vm_outside.proofs.RecordLaws.{passes, may_elapse, noted_elapses, noted_sync_no_more, noted_sync_durable}
use Rattle.vm_outside.specs.Files.{content}
use Rattle.vm_outside.proofs.mem_disk.MemDiskDisk.sync.Goals as goal

pub returns-then-begin-clause-time : goal.returns-then-begin-clause-time
returns-then-begin-clause-time c =
    passes _ _ (may_elapse (content c.args.self.now.first) (content c.fail_write.new.self.first)
    c.args.self.now.calls.items c.fail_write.new.self.calls.items (Sync c.args.file false)
    c.fail_write.ensures.kept.0 c.fail_write.ensures.may_note)

pub returns-in-Ok-clause-durable : goal.returns-in-Ok-clause-durable
returns-in-Ok-clause-durable c =
    noted_sync_durable (content c.args.self.now.first) (content c.note.new.self.first)
    c.args.self.now.calls.items c.note.new.self.calls.items c.args.file
    (content c.args.self.now.files c.args.file) c.note.ensures.keeps.first c.in-Ok.ensures.noted
    (c.args.self.now.replays c.args.file)

pub returns-in-Ok-clause-time : goal.returns-in-Ok-clause-time
returns-in-Ok-clause-time c =
    passes _ _ (noted_elapses (content c.args.self.now.first) (content c.note.new.self.first)
    c.args.self.now.calls.items c.note.new.self.calls.items (Sync c.args.file true)
    c.note.ensures.keeps.first c.in-Ok.ensures.noted)

pub returns-in-Ok-clause-quiet : goal.returns-in-Ok-clause-quiet
returns-in-Ok-clause-quiet c = record {
  honest = refl;
  content = search rules;
  crash = noted_sync_no_more (content c.args.self.now.first) (content c.note.new.self.first)
      c.args.self.now.calls.items c.note.new.self.calls.items c.args.file c.note.ensures.keeps.first
      c.in-Ok.ensures.noted;
  read_faults = search rules;
  write_faults = search rules;
}
