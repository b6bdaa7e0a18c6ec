use Rattle.std.proofs.Common.{arith}
use Rattle.std.proofs.lemmas.Int.{ints}
use Rattle.vm_decimal.proofs.Decs.{in_range-up}
use Rattle.vm_decimal.proofs.dec.placed_up.Goals as goal

pub returns : goal.returns
returns c =
    in_range-up c.args.negative c.args.size c.args.shift c.placed.ensures (omega (arith, ints))
