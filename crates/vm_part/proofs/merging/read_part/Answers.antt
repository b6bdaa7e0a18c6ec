-- The samples of one series more.
use Rattle.std.proofs.Common.{◌++◌, ◌∷◌, [], map, ap, ◌∙◌, sym}
use Rattle.vm_part.specs.Part.{samples_of}
use Rattle.vm_part.proofs.SampleLaws.{blocks_there, series_read, standing, taken}
use Rattle.vm_part.proofs.merging.read_part.Goals as goal

pub read_blocks-requires : goal.read_blocks-requires
read_blocks-requires c =
    let says = c.image-bytes.ensures.part in
    let bytes = c.image-bytes.result.now in
    let entry = c.entry-said.result in
    let ordinal = c.loop-ordinal.ordinal in
    blocks_there bytes entry says.all ordinal
    (standing c.args.part.now says.all ordinal entry bytes says.said.bytes says.said.entries
    c.image-bytes.ensures.bytes c.entry-said.ensures)

pub loop-ordinal-preserved : goal.loop-ordinal-preserved
loop-ordinal-preserved c = λ all is entries.
    let bytes = c.image-bytes.result.now in
    let entry = c.entry-said.result in
    let ordinal = c.loop-ordinal.ordinal in
    let samples = c.in_ok-samples.samples in
    let at =
    standing c.args.part.now all ordinal entry bytes is entries c.image-bytes.ensures.bytes
    c.entry-said.ensures in
    c.in_ok-push.ensures.ok
    ∙ ap (λ xs. xs ++ samples ∷ []) (c.loop-ordinal.invariant all is entries)
    ∙ sym (taken (map samples_of all) ordinal samples
    (series_read bytes entry all ordinal samples at c.in_ok-samples.ensures))
