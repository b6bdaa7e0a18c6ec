use Rattle.std.proofs.Common.{◌∙◌, arith, drop}
use Rattle.vm_promtext.proofs.TokenLaws.{time_after-large, time_of-large}
use Rattle.vm_promtext.proofs.row.time_of.Goals as goal

pub returns-then-time-gt-MAX_TIME : goal.returns-then-time-gt-MAX_TIME
returns-then-time-gt-MAX_TIME c =
    time_of-large c.args.now c.args.digits.now (omega (arith, c.loop-digit-test.true))
    (c.loop-digit.invariant.read
    ∙ time_after-large c.loop-digit.time (drop c.loop-digit.digit-index c.args.digits.now)
    (omega (arith, c.if-time-gt-MAX_TIME.true)))
