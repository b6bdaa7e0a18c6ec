use Rattle.std.proofs.Common.{◌+◌, arith, sym, subst}
use Rattle.vm_decimal.specs.inner.Leading.{IsRounding}
use Rattle.vm_decimal.proofs.Roundings.{few_rounding, many_rounding}
use Rattle.vm_decimal.proofs.leading.rounding.Goals as goal

pub returns-then-digits-lt-SIZES-clause-value : goal.returns-then-digits-lt-SIZES-clause-value
returns-then-digits-lt-SIZES-clause-value c n leads =
    few_rounding c.args.digits n c.if-digits-lt-SIZES.true leads

pub returns-clause-value : goal.returns-clause-value
returns-clause-value c n leads =
    subst (λ size. IsRounding n size (c.args.digits.dropped + 1)) (sym c.tenth.ensures.value)
    (many_rounding c.args.digits n (λ few. absurd (omega arith)) leads)
