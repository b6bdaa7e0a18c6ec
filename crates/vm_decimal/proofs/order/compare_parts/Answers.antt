use Rattle.vm_decimal.proofs.Orders.{below_zero}
use Rattle.vm_decimal.proofs.order.compare_parts.Goals as goal

pub returns-in-true-false : goal.returns-in-true-false
returns-in-true-false c =
    let one = c.args.one in
    let two = c.args.two in
    (below_zero one.negative two.negative one.size two.size one.shift two.shift c.requires.one.plus
    c.in-true-false.is-0 c.in-true-false.is-1).0

pub returns-in-false-true : goal.returns-in-false-true
returns-in-false-true c =
    let one = c.args.one in
    let two = c.args.two in
    (below_zero two.negative one.negative two.size one.size two.shift one.shift c.requires.two.plus
    c.in-false-true.is-1 c.in-false-true.is-0).1
