use Rattle.std.proofs.Common.{inl, inr, arith, ◌==◌, not}
use Rattle.std.proofs.lemmas.Bool.Decides.{nat_tests}
use Rattle.vm_decimal.proofs.Roundings.{kept_more, dropped_more}
use Rattle.vm_decimal.proofs.leading.with_digit.Goals as goal

pub returns-then-digits-lt-SIZES-clause-value : goal.returns-then-digits-lt-SIZES-clause-value
returns-then-digits-lt-SIZES-clause-value c n leads =
    rw c.from.ensures
    (kept_more c.args.digits n c.args.digit c.if-digits-lt-SIZES.true c.requires.digit leads)

pub returns-then-digits-clause-value : goal.returns-then-digits-clause-value
returns-then-digits-clause-value c n leads =
    dropped_more c.args.digits n c.args.digit c.args.digits.sticky (λ few. absurd (omega arith))
    c.requires.digit
    (λ more. inl more) (λ none. absurd (cc (none, c.if-digits.true))) leads

pub returns-else-digits-clause-value : goal.returns-else-digits-clause-value
returns-else-digits-clause-value c n leads =
    dropped_more c.args.digits n c.args.digit (not (c.args.digit == 0))
    (λ few. absurd (omega arith)) c.requires.digit
    (λ more. inr (grind (arith, nat_tests)))
    (λ none. (c.if-digits.false, grind (arith, nat_tests))) leads
