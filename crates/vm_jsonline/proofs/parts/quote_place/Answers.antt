use Rattle.std.proofs.Common.{sym, ◌∙◌}
use Rattle.vm_jsonline.proofs.Loops.{quote_on}
use Rattle.vm_jsonline.proofs.parts.quote_place.Goals as goal

pub loop-at-preserved : goal.loop-at-preserved
loop-at-preserved c =
    quote_on c.args.text.now c.loop-at.at c.loop-at.escaped _ c.loop-at-test.true
    c.loop-at.invariant
    (sym c.is_bare.ensures ∙ c.if-is_bare.false) c.is_bare-escaped.ensures
