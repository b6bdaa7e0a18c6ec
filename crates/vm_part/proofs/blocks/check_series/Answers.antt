-- One block more, or the first that breaks.
use Rattle.std.proofs.Common.{◌+◌, refl, arith}
use Rattle.vm_part.proofs.BlockLaws.{block_joins, none_so_far, series_breaks, series_stands}
use Rattle.vm_part.proofs.blocks.check_series.Goals as goal

pub each-init : goal.each-init
each-init c =
    none_so_far c.args.bytes.now c.args.blocks_end c.args.entry.now _ c.requires.start refl refl
    refl

pub each-preserved : goal.each-preserved
each-preserved c =
    block_joins c.args.bytes.now c.args.entries_at c.args.blocks_end c.args.entry.now c.each.at
    c.each.counter c.in-Ok.len c.each.seen c.check_block.new.seen
    c.requires.end c.each.invariant c.in-Ok.ensures.joins c.in-Ok.ensures.rows

pub returns-in-Err-Broken-clause-broken : goal.returns-in-Err-Broken-clause-broken
returns-in-Err-Broken-clause-broken c =
    let fault = rw c.in-Err-Broken.field-0-is at c.in-Err-Broken.ensures.broken in
    rw c.in-Err-Broken.field-0-is
    (series_breaks c.args.bytes.now c.args.entries_at c.args.blocks_end c.args.entry.now
    c.each.at c.each.counter
    c.in-Err-Broken.place (c.each.at + c.in-Err-Broken.place) c.each.seen c.each.invariant
    (omega (arith, c.each-test.true)) fault.1 refl)

pub returns-clause-stand : goal.returns-clause-stand
returns-clause-stand c =
    series_stands c.args.bytes.now c.args.blocks_end c.args.entry.now c.each.at c.each.counter
    c.each.seen c.each.invariant (omega (arith, c.each-test.false))
