-- The digits so far fit, and so does one more.
use Rattle.std.proofs.Common.{arith, sym, ◌∙◌, ◌-◌, length, slice_index_or}
use Rattle.vm_decimal.proofs.QuickDigits.{room_more, small_more, value_more, digits_more, digit_small}
use Rattle.vm_decimal.proofs.quick.leading_digits.Goals as goal

pub overflow_mul-value : goal.overflow_mul-value
overflow_mul-value c =
    let room =
    room_more c.front.value c.front.count (length c.args.text.now) c.front.invariant.small
    c.front-test.true
    c.requires.few in
    omega (arith, room)

pub overflow_add-value : goal.overflow_add-value
overflow_add-value c =
    let digit = sym c.is_ascii_digit.ensures.value ∙ c.if-is_ascii_digit.true in
    let room =
    room_more c.front.value c.front.count (length c.args.text.now) c.front.invariant.small
    c.front-test.true
    c.requires.few in
    omega (arith, room, digit_small (slice_index_or c.args.text.now c.front.count 0) digit)

pub front-preserved : goal.front-preserved
front-preserved c =
    let byte = slice_index_or c.args.text.now c.front.count 0 in
    let digit = sym c.is_ascii_digit.ensures.value ∙ c.if-is_ascii_digit.true in
    record {
      within = omega arith;
      digits =
          digits_more c.args.text.now c.front.count c.front-test.true digit
          c.front.invariant.digits;
      value =
          value_more 0 c.args.text.now c.front.count c.front.value c.front-test.true
          digit c.front.invariant.value;
      small = small_more c.front.value (byte - 48) c.front.count c.front.invariant.small
          (digit_small byte digit);
    }
