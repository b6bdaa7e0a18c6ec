-- The block at the front is read, and the bytes behind it are left.
use Rattle.std.proofs.Common.{◌≡◌, ◌+◌, ◌++◌, ap, ◌∙◌, refl}
use Rattle.vm_part.proofs.SampleLaws.{behind, block_there, header_there, header_within, samples_same}
use Rattle.vm_part.proofs.series.put_block.Goals as goal

pub split_at-requires : goal.split_at-requires
split_at-requires c = header_within c.args.bytes.now c.requires

pub header_at-header-requires : goal.header_at-header-requires
header_at-header-requires c =
    header_there c.args.bytes.now c.split_at.result.0.now c.requires c.split_at.ensures.front

pub split_at-requires-2 : goal.split_at-requires-2
split_at-requires-2 c =
    let h = c.header_at-header.result in
    (behind c.args.bytes.now c.split_at.result.0.now c.split_at.result.1.now
    (h.times_len + h.values_len) h c.requires.first c.requires.more c.requires.begins
    c.split_at.ensures.front c.split_at.ensures.back c.header_at-header.ensures.header
    c.header_at-header.ensures.bytes refl).within

pub read_standing-requires : goal.read_standing-requires
read_standing-requires c =
    let h = c.header_at-header.result in
    let b = c.requires.first in
    let at =
    behind c.args.bytes.now c.split_at.result.0.now c.split_at.result.1.now
    (h.times_len + h.values_len) h b c.requires.more c.requires.begins
    c.split_at.ensures.front c.split_at.ensures.back c.header_at-header.ensures.header
    c.header_at-header.ensures.bytes refl in (
      b.samples,
      block_there h c.split_at-2.result.0.now b at.same (c.split_at-2.ensures.front ∙ at.body)
          c.requires.begins.block,
    )

pub returns : goal.returns
returns c = λ b more begins.
    let h = c.header_at-header.result in
    let at =
    behind c.args.bytes.now c.split_at.result.0.now c.split_at.result.1.now
    (h.times_len + h.values_len) h b more begins
    c.split_at.ensures.front c.split_at.ensures.back c.header_at-header.ensures.header
    c.header_at-header.ensures.bytes refl in
    let read : c.in_ok-block.block ≡ b.samples =
    samples_same h c.split_at-2.result.0.now b c.in_ok-block.block at.same
    (c.split_at-2.ensures.front ∙ at.body) begins.block c.in_ok-block.ensures in (
      c.in_ok-extend_from_slice.ensures.items
          ∙ ap (λ xs. c.args.samples.now.items ++ xs) (c.as_slice.ensures ∙ read),
      c.split_at-2.ensures.back ∙ at.more_is,
    )
