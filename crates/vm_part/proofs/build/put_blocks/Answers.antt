-- One block more, and all of them.
use Rattle.std.proofs.Common.{◌≡◌, ◌≤◌, ◌++◌, length, sym, ap, ap₂, ◌∙◌, subst, arith}
use Rattle.std.proofs.lemmas.List.{take_all}
use Rattle.vm_block.specs.Cut.{AreOneBlock, IsCut}
use Rattle.vm_block.specs.Written.{IsWritten}
use Rattle.vm_part.specs.inner.Making.{summed}
use Rattle.vm_part.proofs.BuildLaws.{WrittenSoFar, all_written, may_be_written, none_written, one_written}
use Rattle.vm_part.proofs.build.put_blocks.Goals as goal

pub loop-block-init : goal.loop-block-init
loop-block-init c = none_written c.args.out.now.items

pub encode_block-requires : goal.encode_block-requires
encode_block-requires c =
    let blocks = c.as_slice-block-items.result.now in
    let cut =
    subst (IsCut c.args.samples.now) (sym c.as_slice-block-items.ensures)
    c.in_ok-blocks.ensures in
    subst AreOneBlock (sym c.as_slice.ensures)
    (may_be_written c.args.samples.now blocks c.loop-block.block-index c.block-item.result
    c.requires cut c.loop-block-test.true c.block-item.is)

pub loop-block-preserved : goal.loop-block-preserved
loop-block-preserved c =
    let blocks = c.as_slice-block-items.result.now in
    let now = c.loop-block.out.items in
    one_written blocks c.loop-block.block-index c.block-item.result c.args.out.now.items now
    c.extend_from_slice.new.self.items c.in_ok-bytes.bytes
    c.loop-block-test.true c.block-item.is c.loop-block.invariant
    (subst (IsWritten c.in_ok-bytes.bytes) c.as_slice.ensures c.in_ok-bytes.ensures)
    (c.in_ok-extend_from_slice.ensures.items
    ∙ ap (λ bs. now ++ bs) c.as_slice-in-loop-block.ensures)

pub returns : goal.returns
returns c =
    let samples = c.args.samples.now in
    let blocks = c.as_slice-block-items.result.now in
    let before = c.args.out.now.items in
    let after = c.loop-block.out.items in
    let start : c.len-start.result ≡ length before = omega (arith, c.len-start.ensures) in
    let long : length blocks ≤ c.loop-block.block-index = omega arith in
    let many : c.len.result ≡ length blocks = c.len.ensures
    ∙ ap length (sym c.as_slice-block-items.ensures) in
    let so_far : WrittenSoFar blocks before after =
    subst (λ bs. WrittenSoFar bs before after) (take_all c.loop-block.block-index blocks long)
    c.loop-block.invariant in
    all_written samples blocks before after c.entry_for.result c.requires
    (subst (IsCut samples) (sym c.as_slice-block-items.ensures) c.in_ok-blocks.ensures) so_far
    (c.entry_for.ensures ∙ ap₂ (λ n m. summed n m samples) start many)
