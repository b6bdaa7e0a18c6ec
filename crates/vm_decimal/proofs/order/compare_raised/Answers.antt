use Rattle.vm_decimal.proofs.Orders.{above}
use Rattle.vm_decimal.proofs.order.compare_raised.Goals as goal

pub returns-in-None : goal.returns-in-None
returns-in-None c =
    above c.args.size c.args.gap c.args.other c.in-None.ensures.wide c.requires.other
