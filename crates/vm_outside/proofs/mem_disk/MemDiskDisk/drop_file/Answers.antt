use Rattle.std.proofs.Common.{rules, refl, ap, ◌∙◌, inl, true, false}
use Rattle.vm_outside.specs.declared.disk_call.DiskCall.TheVariants.{DropFile}
use Rattle.vm_outside.proofs.RecordLaws.{gives_none, passes, may_elapse, noted_elapses, may_drop}
use mathlib.Core.Path.{fun_ext}
use Rattle.vm_outside.specs.Files.{content}
use Rattle.vm_outside.proofs.mem_disk.MemDiskDisk.drop_file.Goals as goal

pub returns-then-begin-clause-time : goal.returns-then-begin-clause-time
returns-then-begin-clause-time c =
    passes _ _ (may_elapse (content c.args.self.now.first) (content c.fail_write.new.self.first)
    c.args.self.now.calls.items c.fail_write.new.self.calls.items (DropFile c.args.file false)
    c.fail_write.ensures.kept.0 c.fail_write.ensures.may_note)

pub returns-in-Ok-clause-time : goal.returns-in-Ok-clause-time
returns-in-Ok-clause-time c =
    passes _ _ (noted_elapses (content c.args.self.now.first) (content c.args.self.now.first)
    c.args.self.now.calls.items c.empty_down.new.calls.items (DropFile c.args.file true) refl
    c.in-Ok.ensures.noted)

pub returns-in-Err-clause-kept : goal.returns-in-Err-clause-kept
returns-in-Err-clause-kept c =
    ap (λ disk. content disk.files) c.write_failed.ensures
    ∙ fun_ext (λ file. c.in-Err.ensures.kept file)

pub returns-in-Err-clause-torn : goal.returns-in-Err-clause-torn
returns-in-Err-clause-torn c =
    inl (ap (λ disk. content disk.files) c.write_failed.ensures
    ∙ fun_ext (λ file. c.in-Err.ensures.kept file))

pub returns-then-begin-clause-torn : goal.returns-then-begin-clause-torn
returns-then-begin-clause-torn c = inl c.fail_write.ensures.kept.1

pub returns-then-begin-clause-changes : goal.returns-then-begin-clause-changes
returns-then-begin-clause-changes c = record {
  honest = refl;
  others = λ honest other apart. ap (λ files. files other) c.fail_write.ensures.kept.1;
  bytes_read =
      λ honest.
      gives_none (DropFile c.args.file false) (λ past. refl) c.args.self.now.calls.items
      c.fail_write.new.self.calls.items c.fail_write.ensures.may_note;
  crash = may_drop (content c.args.self.now.first) (content c.fail_write.new.self.first)
      c.args.self.now.calls.items c.fail_write.new.self.calls.items c.args.file false
      c.fail_write.ensures.kept.0 c.fail_write.ensures.may_note;
  read_faults = search rules;
  write_faults = search rules;
}

pub returns-in-Ok-clause-changes : goal.returns-in-Ok-clause-changes
returns-in-Ok-clause-changes c = record {
  honest = refl;
  others = search rules;
  bytes_read =
      λ honest.
      gives_none (DropFile c.args.file true) (λ past. refl) c.args.self.now.calls.items
      c.empty_down.new.calls.items (inl c.in-Ok.ensures.noted);
  crash = may_drop (content c.args.self.now.first) (content c.args.self.now.first)
      c.args.self.now.calls.items c.empty_down.new.calls.items c.args.file true refl
      (inl c.in-Ok.ensures.noted);
  read_faults = search rules;
  write_faults = search rules;
}
