use Rattle.std.proofs.Common.{length, ap, arith}
use Rattle.vm_labels.proofs.BytesLaws.{kept_on, short_at}
use Rattle.vm_labels.proofs.bytes.put_set.Goals as goal

pub put_text-requires : goal.put_text-requires
put_text-requires c =
    let short =
    short_at c.args.pairs.now c.loop-pair.pair-index c.pair-item.result c.requires
    c.loop-pair-test.true c.pair-item.is in
    omega (arith, short.0, ap length c.as_str.ensures)

pub returns-in_err-put_text-clause-kept : goal.returns-in_err-put_text-clause-kept
returns-in_err-put_text-clause-kept c =
    kept_on c.args.out.now.items _ c.put_text.new.out.items _ c.loop-pair.invariant.bytes
    c.put_text.ensures.kept

pub put_text-requires-in-loop-pair : goal.put_text-requires-in-loop-pair
put_text-requires-in-loop-pair c =
    let short =
    short_at c.args.pairs.now c.loop-pair.pair-index c.pair-item.result c.requires
    c.loop-pair-test.true c.pair-item.is in
    omega (arith, short.1, ap length c.as_str-in-loop-pair.ensures)

pub returns-in_err-put_text-2-clause-kept : goal.returns-in_err-put_text-2-clause-kept
returns-in_err-put_text-2-clause-kept c =
    kept_on c.args.out.now.items _ c.put_text-in-loop-pair.new.out.items
    _ c.loop-pair.invariant.bytes
    (kept_on _ _ c.put_text-in-loop-pair.new.out.items _ c.in_ok-put_text.ensures.ok
    c.put_text-in-loop-pair.ensures.kept)
