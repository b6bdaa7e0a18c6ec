use Rattle.std.proofs.Common.{◌∙◌}
use Rattle.vm_decimal.proofs.Levels.{order_at}
use Rattle.vm_decimal.proofs.order.DecOrd.cmp.Goals as goal

pub returns-in-Some : goal.returns-in-Some
returns-in-Some c =
    let both = c.in-Some.both in
    let is = c.in-Some.ensures in
    c.cmp.ensures
    ∙ order_at both.one both.two c.args.self.now c.args.other.now both.shift is.one_is is.two_is
