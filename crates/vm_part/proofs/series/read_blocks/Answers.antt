-- One block after the other.
use Rattle.std.proofs.Common.{◌≡◌, ◌+◌, ◌-◌, ◌<◌, suc, ◌∙◌, arith}
use Rattle.vm_part.proofs.SampleLaws.{all_due, all_read, one_read, one_there}
use Rattle.vm_part.proofs.series.read_blocks.Goals as goal

pub split_at-requires : goal.split_at-requires
split_at-requires c = c.requires.stand.within

pub reading-init : goal.reading-init
reading-init c = λ blocks stand.
    all_due c.args.bytes.now c.split_at.result.1.now c.args.entry.now blocks
    c.new-samples.result.items stand c.split_at.ensures.back c.new-samples.ensures.items

pub put_block-requires : goal.put_block-requires
put_block-requires c =
    let left = c.args.entry.now.blocks - c.reading._block in
    let some : 0 < left = omega arith in
    one_there c.requires.found c.reading.samples.items c.reading.rest.now left
    (c.reading.invariant c.requires.found c.requires.stand) some

pub reading-preserved : goal.reading-preserved
reading-preserved c = λ blocks stand.
    let left = c.args.entry.now.blocks - c.reading._block in
    let fewer = c.args.entry.now.blocks - (c.reading._block + 1) in
    let one_less : left ≡ suc fewer = omega arith in
    one_read blocks c.reading.samples.items c.put_block.new.samples.items c.reading.rest.now
    c.in_ok-more.more.now left fewer
    (c.reading.invariant blocks stand) one_less c.in_ok-more.ensures

pub returns : goal.returns
returns c = λ blocks stand.
    let left = c.args.entry.now.blocks - c.reading._block in
    let none_left : left ≡ 0 = omega arith in
    c.from_vec.ensures
    ∙ all_read blocks c.reading.samples.items c.reading.rest.now left
    (c.reading.invariant blocks stand) none_left
