use Rattle.std.proofs.Common.{◌≡◌, arith}
use Rattle.vm_decimal.proofs.Exacts.{with_room, with_nought, with_more}
use Rattle.vm_decimal.proofs.exact.with_digit.Goals as goal
use Rattle.vm_decimal.proofs.exact.with_digit.Goals.{else-digits-eq0-via-then-digits-eq0+else-digits-lt-ROOM, else-digits-eq0-via-else-digits-eq0}

pub returns-then-digits-lt-ROOM-clause-value : goal.returns-then-digits-lt-ROOM-clause-value
returns-then-digits-lt-ROOM-clause-value c n is =
    rw c.from.ensures
    (with_room c.args.digits n c.args.digit is (omega arith) (omega arith) c.requires.digit)

pub returns-then-digit-eq0-clause-value : goal.returns-then-digit-eq0-clause-value
returns-then-digit-eq0-clause-value c n is =
    let none : c.args.digit ≡ 0 = omega arith in
    rw none
    (with_nought c.args.digits n is
    (λ empty room.
    elim c.else-digits-eq0.branch [
      | else-digits-eq0-via-then-digits-eq0+else-digits-lt-ROOM w ↦ omega arith
      | else-digits-eq0-via-else-digits-eq0 w ↦ omega arith
    ]))

pub returns-clause-value : goal.returns-clause-value
returns-clause-value c n is =
    with_more c.args.digits n c.args.digit is
    (λ empty room.
    elim c.else-digits-eq0.branch [
      | else-digits-eq0-via-then-digits-eq0+else-digits-lt-ROOM w ↦ omega arith
      | else-digits-eq0-via-else-digits-eq0 w ↦ omega arith
    ])
    c.requires.digit (λ none. omega arith)
