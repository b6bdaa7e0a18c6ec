use Rattle.vm_decimal.proofs.Divisions.{some_quotient}
use Rattle.vm_decimal.proofs.division.quotient.Goals as goal

pub returns-in-Some : goal.returns-in-Some
returns-in-Some c =
    λ n d is.
    some_quotient n d c.args.both is c.in-Some.divisor c.nearest.result c.in-Some.is
    c.nearest.ensures
