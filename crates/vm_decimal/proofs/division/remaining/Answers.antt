use Rattle.vm_decimal.proofs.Divisions.{some_rest, none_rest}
use Rattle.vm_decimal.proofs.division.remaining.Goals as goal

pub returns-in-Some : goal.returns-in-Some
returns-in-Some c = λ n d is. some_rest n d c.args.both is c.in-Some.divisor c.in-Some.is

pub returns-in-None : goal.returns-in-None
returns-in-None c = λ n d is. none_rest n d c.args.both is c.in-None.is
