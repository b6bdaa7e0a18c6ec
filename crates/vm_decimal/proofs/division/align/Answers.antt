use Rattle.std.proofs.Common.{◌≡◌, ◌-◌, ◌*◌, ◌^◌, arith}
use Rattle.vm_decimal.proofs.Divisions.{lower_dividend, lower_divisor}
use Rattle.vm_decimal.proofs.division.align.Goals as goal

pub returns-then-dividend-divisor-clause-aligned : goal.returns-then-dividend-divisor-clause-aligned
returns-then-dividend-divisor-clause-aligned c =
    lower_dividend c.args.dividend c.args.divisor c.raised.result c.requires.few c.requires.some
    c.if-dividend-divisor.true c.raised.ensures.value c.raised.ensures.wide

pub returns-clause-aligned : goal.returns-clause-aligned
returns-clause-aligned c =
    let n = c.args.dividend in
    let d = c.args.divisor in
    let is : c.in-Some.size ≡ n.size * 10 ^ (n.shift - d.shift) =
    omega (arith, c.in-Some.ensures) in
    lower_divisor n d c.in-Some.size c.requires.some c.if-dividend-divisor.false is (omega arith)
