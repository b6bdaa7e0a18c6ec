use Rattle.std.proofs.Common.{sym, ◌∙◌}
use Rattle.mql_expr.proofs.NamesLaws.{passed}
use Rattle.mql_expr.proofs.names.named_among.Goals as goal

pub loop-known-preserved : goal.loop-known-preserved
loop-known-preserved c = c.loop-known.invariant
    ∙ passed c.args.all.now c.args.name.now c.loop-known.known-index _ c.loop-known-test.true
    (sym c.if-is_named.ensures)
