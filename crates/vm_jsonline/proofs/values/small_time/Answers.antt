use Rattle.std.proofs.Common.{◌∙◌, sym, arith, drop}
use Rattle.vm_jsonline.proofs.Times.{time_after-large}
use Rattle.vm_jsonline.proofs.values.small_time.Goals as goal

pub returns-then-time-gt-MAX_TIME : goal.returns-then-time-gt-MAX_TIME
returns-then-time-gt-MAX_TIME c =
    sym (c.loop-digit.invariant.read
    ∙ time_after-large c.loop-digit.time (drop c.loop-digit.digit-index c.args.digits.now)
    (omega (arith, c.if-time-gt-MAX_TIME.true)))
