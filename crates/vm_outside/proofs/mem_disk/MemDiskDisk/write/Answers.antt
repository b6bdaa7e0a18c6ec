use Rattle.std.proofs.Common.{rules, refl, ap, inl, true, false}
use Rattle.vm_outside.specs.declared.disk_call.DiskCall.TheVariants.{Write}
use Rattle.vm_outside.proofs.RecordLaws.{gives_none, passes, may_elapse, noted_elapses, may_write}
use Rattle.vm_outside.specs.Files.{content}
use Rattle.vm_outside.proofs.mem_disk.MemDiskDisk.write.Goals as goal

pub returns-then-begin-clause-time : goal.returns-then-begin-clause-time
returns-then-begin-clause-time c =
    passes _ _ (may_elapse (content c.args.self.now.first)
    (content c.fail_whole_write.new.self.first) c.args.self.now.calls.items
    c.fail_whole_write.new.self.calls.items (Write c.args.file c.args.at c.args.bytes.now false)
    c.fail_whole_write.ensures.kept.0 c.fail_whole_write.ensures.may_note)

pub returns-in-Ok-clause-time : goal.returns-in-Ok-clause-time
returns-in-Ok-clause-time c =
    passes _ _ (noted_elapses (content c.args.self.now.first) (content c.args.self.now.first)
    c.args.self.now.calls.items c.write_down.new.calls.items
    (Write c.args.file c.args.at c.args.bytes.now true) refl c.in-Ok.ensures.noted)

pub returns-then-begin-clause-changes : goal.returns-then-begin-clause-changes
returns-then-begin-clause-changes c = record {
  honest = refl;
  others = λ honest other apart. ap (λ files. files other) c.fail_whole_write.ensures.kept.1;
  bytes_read =
      λ honest.
      gives_none (Write c.args.file c.args.at c.args.bytes.now false) (λ past. refl)
      c.args.self.now.calls.items c.fail_whole_write.new.self.calls.items
      c.fail_whole_write.ensures.may_note;
  crash = may_write (content c.args.self.now.first) (content c.fail_whole_write.new.self.first)
      c.args.self.now.calls.items c.fail_whole_write.new.self.calls.items c.args.file c.args.at
      c.args.bytes.now false c.fail_whole_write.ensures.kept.0 c.fail_whole_write.ensures.may_note;
  read_faults = search rules;
  write_faults = search rules;
}

pub returns-in-Ok-clause-changes : goal.returns-in-Ok-clause-changes
returns-in-Ok-clause-changes c = record {
  honest = refl;
  others = search rules;
  bytes_read =
      λ honest.
      gives_none (Write c.args.file c.args.at c.args.bytes.now true) (λ past. refl)
      c.args.self.now.calls.items c.write_down.new.calls.items (inl c.in-Ok.ensures.noted);
  crash = may_write (content c.args.self.now.first) (content c.args.self.now.first)
      c.args.self.now.calls.items c.write_down.new.calls.items c.args.file c.args.at
      c.args.bytes.now true refl (inl c.in-Ok.ensures.noted);
  read_faults = search rules;
  write_faults = search rules;
}
