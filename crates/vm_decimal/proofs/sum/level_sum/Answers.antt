use Rattle.std.proofs.Common.{◌∙◌}
use Rattle.vm_decimal.proofs.Sums.{level}
use Rattle.vm_decimal.proofs.sum.level_sum.Goals as goal

pub returns : goal.returns
returns c =
    let one = c.args.one in
    let two = c.args.two in
    let sum = c.signed_sum-negative in
    c.placed_up.ensures
    ∙ level sum.result.0 sum.result.1 one.negative one.size two.negative two.size one.shift
    two.shift
    c.requires.level sum.ensures
