use Rattle.std.proofs.Common.{◌≡◌, ◌+◌, ◌-◌, length, take, drop, refl, arith, subst, length-take, length-drop}
use Rattle.vm_decimal.proofs.QuickDigits.{Behind, room_less, room_joined, first_digits, more_digits}
use Rattle.vm_decimal.proofs.quick.digits_behind.Goals as goal

pub joined-size-requires : goal.joined-size-requires
joined-size-requires c =
    let first = c.leading_digits-first in
    let text = c.args.text.now in
    record {
      room = room_less (c.args.before + 1) first.result.1 (length text)
          (omega (arith, first.ensures.within, length-take c.min.result text)) c.requires.room;
      small = first.ensures.small;
      few = omega (arith, first.ensures.within, length-take c.min.result text, c.min.ensures);
    }

pub returns-then-count-lt19 : goal.returns-then-count-lt19
returns-then-count-lt19 c =
    let first = c.leading_digits-first in
    let text = c.args.text.now in
    let b : Behind c.args.before c.args.text.now c.joined-size.result
    c.leading_digits-first.result.1 =
    first_digits c.args.before text (take c.min.result text) c.min.result first.result.0
    first.result.1
    c.joined-size.result refl first.ensures.within first.ensures.digits first.ensures.value
    first.ensures.small
    c.joined-size.ensures in
    record { within = b.within; digits = b.digits; value = b.value; small = b.small }

pub last_digits-all-requires : goal.last_digits-all-requires
last_digits-all-requires c =
    let first = c.leading_digits-first in
    let text = c.args.text.now in
    let full : c.leading_digits-first.result.1 ≡ 19 =
    omega (arith, first.ensures.within, length-take c.min.result text, c.min.ensures) in
    let b : Behind c.args.before c.args.text.now c.joined-size.result
    c.leading_digits-first.result.1 =
    first_digits c.args.before text (take c.min.result text) c.min.result first.result.0
    first.result.1
    c.joined-size.result refl first.ensures.within first.ensures.digits first.ensures.value
    first.ensures.small
    c.joined-size.ensures in
    let rest = take (length text - 19) (drop 19 text) in
    let many = length-take (length text - 19) (drop 19 text) in
    record {
      room = room_joined (c.args.before + 1) c.joined-size.result first.result.1 (length rest)
          (length text) b.small
          (omega (arith, full, b.within, many, length-drop 19 text)) c.requires.room;
      few = omega (arith, many, length-drop 19 text, c.requires.few);
    }

pub returns : goal.returns
returns c =
    let first = c.leading_digits-first in
    let last = c.last_digits-all.ensures in
    let text = c.args.text.now in
    let b : Behind c.args.before c.args.text.now c.joined-size.result
    c.leading_digits-first.result.1 =
    first_digits c.args.before text (take c.min.result text) c.min.result first.result.0
    first.result.1
    c.joined-size.result refl first.ensures.within first.ensures.digits first.ensures.value
    first.ensures.small
    c.joined-size.ensures in
    let full : c.leading_digits-first.result.1 ≡ 19 =
    omega (arith, first.ensures.within, length-take c.min.result text, c.min.ensures) in
    let all :
    Behind c.args.before c.args.text.now c.last_digits-all.result.0
    (19 + c.last_digits-all.result.1) =
    more_digits c.args.before text (take (length text - 19) (drop 19 text)) 19 c.joined-size.result
    c.last_digits-all.result.1 c.last_digits-all.result.0
    (subst (Behind c.args.before text c.joined-size.result) full b) refl
    (record {
      within = last.within;
      digits = last.digits;
      value = last.value;
      small = last.small;
    }) in
    record { within = all.within; digits = all.digits; value = all.value; small = all.small }
