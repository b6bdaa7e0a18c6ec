use Rattle.std.proofs.Common.{arith}
use Rattle.vm_base.proofs.Noughts.{one_nought_off}
use Rattle.vm_base.proofs.sizes.without_noughts.Goals as goal

pub noughts-preserved : goal.noughts-preserved
noughts-preserved c =
    let n = c.noughts in
    record {
      some = omega arith;
      whole = one_nought_off c.args.size n.size n.noughts n.invariant.whole (omega arith);
    }
