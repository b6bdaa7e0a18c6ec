use Rattle.std.proofs.Common.{◌+◌, length, arith, sym, take_all}
use Rattle.vm_decimal.proofs.QuickDigits.{Behind, room_less, first_digits}
use Rattle.vm_decimal.proofs.quick.last_digits.Goals as goal

pub joined-requires : goal.joined-requires
joined-requires c =
    let digits = c.leading_digits-digits in
    record {
      room = room_less (c.args.before + 1) digits.result.1 (length c.args.text.now)
          digits.ensures.within c.requires.room;
      small = digits.ensures.small;
      few = omega (arith, digits.ensures.within, c.requires.few);
    }

pub returns : goal.returns
returns c =
    let digits = c.leading_digits-digits in
    let text = c.args.text.now in
    let b : Behind c.args.before c.args.text.now c.joined.result c.leading_digits-digits.result.1 =
    first_digits c.args.before text text (length text) digits.result.0 digits.result.1
    c.joined.result
    (sym (take_all (length text) text (omega arith))) digits.ensures.within digits.ensures.digits
    digits.ensures.value digits.ensures.small c.joined.ensures in
    record { within = b.within; digits = b.digits; value = b.value; small = b.small }
