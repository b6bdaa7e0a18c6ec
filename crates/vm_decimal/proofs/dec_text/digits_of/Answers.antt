use Rattle.vm_decimal.specs.NumberMachine.{spelled}
use Rattle.vm_decimal.proofs.dec_text.digits_of.Goals as goal

pub returns-then-exact-clause-value : goal.returns-then-exact-clause-value
returns-then-exact-clause-value c s stands reads =
    let is = c.exact_digits-exact.ensures.value (spelled s) reads in
    is.beyond c.if-exact.true

pub returns-clause-value : goal.returns-clause-value
returns-clause-value c s stands reads =
    let is = c.exact_digits-exact.ensures.value (spelled s) reads in
    is.whole c.if-exact.false
