use Rattle.vm_jsonline.specs.Print.{value_text}
use Rattle.vm_jsonline.proofs.Prints.{join_more}
use Rattle.vm_jsonline.proofs.print.put_values.Goals as goal

pub loop-index-preserved : goal.loop-index-preserved
loop-index-preserved c =
    join_more value_text c.args.text.now.items _ _ _ c.args.samples.now c.loop-index.index
    c.index-samples-index.result c.loop-index-test.true c.index-samples-index.is
    c.loop-index.invariant c.in_ok-put_comma_before.ensures c.in_ok-put_value.ensures
