use Rattle.std.proofs.Common.{rules, ◌≡◌, subst, sym}
use Rattle.vm_part.specs.Files.{Begun, HasWritten, next_len}
use Rattle.vm_part.proofs.WritingLaws.{written_more}
use Rattle.vm_part.proofs.writer.PartWriter.finish_step.Goals as goal

pub returns-clause-written : goal.returns-clause-written
returns-clause-written g c honest =
    let begun : Begun =
    record {
      file = c.self.inside.file;
      part = c.self.inside.part.value;
      done = c.self.inside.done;
    } in
    let has =
    subst (λ b. HasWritten b (g.D.Disk.state c.args.disk.now).reads) (sym c.self.view_is)
    (c.requires.written honest) in
    let len : c.min-len.result ≡ next_len begun = search rules in
    let image : c.image-bytes.result.now ≡ begun.part.bytes = search rules in
    written_more begun c.min-len.result c.image-bytes.result.now
    (g.D.Disk.state c.args.disk.now).reads (g.D.Disk.state c.write.new.self).reads
    has c.self.invariant.0 len image (c.in_ok-write.ensures.written honest).own
