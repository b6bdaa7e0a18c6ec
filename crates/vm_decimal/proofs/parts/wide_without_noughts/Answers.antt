use Rattle.std.proofs.Common.{arith}
use Rattle.vm_decimal.proofs.Sizes.{one_nought_off, few_noughts}
use Rattle.vm_decimal.proofs.parts.wide_without_noughts.Goals as goal

pub noughts-preserved : goal.noughts-preserved
noughts-preserved c =
    let n = c.noughts in
    record {
      some = omega arith;
      whole = one_nought_off c.args.size n.size n.noughts n.invariant.whole (omega arith);
    }

pub returns-else-size-eq0-clause-few : goal.returns-else-size-eq0-clause-few
returns-else-size-eq0-clause-few c =
    few_noughts c.args.size c.noughts.size c.noughts.noughts c.noughts.invariant.whole
    c.noughts.invariant.some (omega arith)

pub returns-after-noughts-clause-few : goal.returns-after-noughts-clause-few
returns-after-noughts-clause-few c =
    few_noughts c.args.size c.noughts.size c.noughts.noughts c.noughts.invariant.whole
    c.noughts.invariant.some (omega arith)
