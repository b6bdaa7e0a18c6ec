-- The blocks of the series stand in the bytes.
use Rattle.std.proofs.Common.{◌≡◌, List, Some, map, slice_get}
use Rattle.std.proofs.lemmas.Result.{IfOk-weaker}
use Rattle.vm_part.specs.Part.{Block, samples_in, samples_of}
use Rattle.vm_part.specs.Said.{Says}
use Rattle.vm_part.specs.inner.Standing.{StandAt}
use Rattle.vm_part.proofs.SampleLaws.{blocks_there, series_read, standing}
use Rattle.vm_part.proofs.part.MemPart.samples.Goals as goal

pub read_blocks-requires : goal.read_blocks-requires
read_blocks-requires c =
    let says = c.image-bytes.ensures.part in
    let bytes = c.image-bytes.result.now in
    let entry = c.entry-said.result in
    let ordinal = c.args.ordinal in
    blocks_there bytes entry says.all ordinal
    (standing c.args.self.now says.all ordinal entry bytes says.said.bytes says.said.entries
    c.image-bytes.ensures.bytes c.entry-said.ensures)

pub returns : goal.returns
returns c =
    let says = c.image-bytes.ensures.part in
    let bytes = c.image-bytes.result.now in
    let entry = c.entry-said.result in
    let ordinal = c.args.ordinal in
    let at =
    standing c.args.self.now says.all ordinal entry bytes says.said.bytes says.said.entries
    c.image-bytes.ensures.bytes c.entry-said.ensures in
    IfOk-weaker c.read_blocks.result
    (λ samples. (blocks : List Block) → StandAt bytes entry blocks
    → samples ≡ samples_in blocks)
    (λ samples. Says c.args.self.now (λ all. slice_get (map samples_of all) ordinal ≡ Some samples))
    (λ samples said. record {
      all = says.all;
      said = says.said;
      that = series_read bytes entry says.all ordinal samples at said;
    }) c.read_blocks.ensures
