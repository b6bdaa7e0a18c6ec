use Rattle.vm_decimal.proofs.Divisions.{some_multiple, none_multiple}
use Rattle.vm_decimal.proofs.division.nearest_multiple_of.Goals as goal

pub returns-in-Some : goal.returns-in-Some
returns-in-Some c =
    λ n d is.
    some_multiple n d c.args.both is c.in-Some.divisor c.nearest.result c.in-Some.is
    c.nearest.ensures

pub returns-in-None : goal.returns-in-None
returns-in-None c = λ n d is. none_multiple n d c.args.both is c.in-None.is
