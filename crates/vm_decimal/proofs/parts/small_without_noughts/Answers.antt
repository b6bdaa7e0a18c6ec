use Rattle.std.proofs.Common.{arith}
use Rattle.vm_decimal.proofs.Sizes.{one_nought_off, few_noughts}
use Rattle.vm_decimal.proofs.parts.small_without_noughts.Goals as goal

pub noughts-preserved : goal.noughts-preserved
noughts-preserved c =
    let n = c.noughts in
    record {
      some = omega arith;
      whole = one_nought_off c.args.size n.size n.noughts n.invariant.whole (omega arith);
    }

pub returns-clause-few : goal.returns-clause-few
returns-clause-few c =
    few_noughts c.args.size c.noughts.size c.noughts.noughts c.noughts.invariant.whole
    c.noughts.invariant.some (omega arith)
