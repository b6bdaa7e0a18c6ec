use Rattle.std.proofs.Common.{ap, ◌∙◌, ◌+◌, drop}
use Rattle.std.specs.Prelude.{is_some}
use Rattle.vm_jsonline.specs.Strings.{text_from, pieces}
use Rattle.vm_jsonline.proofs.Loops.{next_drop}
use Rattle.vm_jsonline.proofs.strings.is_paired.Goals as goal

pub loop-byte-preserved : goal.loop-byte-preserved
loop-byte-preserved c =
    let text = c.args.text.now in
    let i = c.loop-byte.byte-index in
    let d = c.loop-byte.decoder in
    let next = c.next-given.result.0 in
    c.loop-byte.invariant
    ∙ ap (λ t. is_some (text_from d.high (pieces d.pending t)))
    (next_drop text i c.loop-byte-test.true)
    ∙ ap is_some (c.next-given.ensures (drop (i + 1) text))
    ∙ c.if-is_lone.ensures (text_from next.high (pieces next.pending (drop (i + 1) text)))
