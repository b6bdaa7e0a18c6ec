use Rattle.vm_labels.proofs.BytesLaws.{kept_on}
use Rattle.vm_labels.proofs.TextLaws.{kept_twice, text_more}
use Rattle.vm_labels.proofs.text.put_labels.Goals as goal

pub returns-in_err-put_comma_before-clause-kept : goal.returns-in_err-put_comma_before-clause-kept
returns-in_err-put_comma_before-clause-kept c =
    kept_on c.args.out.now.items _ c.put_comma_before.new.out.items _ c.loop-index.invariant
    c.put_comma_before.ensures.kept

pub returns-in_err-put_pair-clause-kept : goal.returns-in_err-put_pair-clause-kept
returns-in_err-put_pair-clause-kept c =
    kept_twice c.args.out.now.items _ c.put_pair.new.out.items
    (kept_on c.args.out.now.items _ c.put_comma_before.new.out.items _ c.loop-index.invariant
    c.put_comma_before.ensures.kept) c.put_pair.ensures.kept

pub loop-index-preserved : goal.loop-index-preserved
loop-index-preserved c =
    text_more c.args.out.now.items _ _ c.put_pair.new.out.items c.args.pairs.now c.loop-index.index
    c.index-pairs-index.result c.loop-index-test.true c.index-pairs-index.is
    c.loop-index.invariant c.in_ok-put_comma_before.ensures.ok c.in_ok-put_pair.ensures.ok
