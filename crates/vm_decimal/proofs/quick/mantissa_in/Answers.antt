use Rattle.std.proofs.Common.{◌≤◌, ◌+◌, ◌-◌, ◌^◌, length, take, drop, refl, arith, length-take}
use Rattle.std.proofs.Math.Nat.{pow-le-pow_right}
use Rattle.vm_decimal.proofs.QuickDigits.{room_behind, whole_quick, pointed_quick}
use Rattle.vm_decimal.proofs.quick.mantissa_in.Goals as goal

pub digits_behind-whole-requires-clause-room : goal.digits_behind-whole-requires-clause-room
digits_behind-whole-requires-clause-room c =
    let power : 10 ^ length (take c.min.result c.args.text.now) ≤ 10 ^ 38 =
    pow-le-pow_right {n = 10}
    (omega arith) {i = length (take c.min.result c.args.text.now)} {j = 38}
    (omega (arith, length-take c.min.result c.args.text.now, c.min.ensures)) in
    omega arith

pub digits_behind-size-requires : goal.digits_behind-size-requires
digits_behind-size-requires c =
    let first = c.digits_behind-whole.ensures in
    let end = c.digits_behind-whole.result.1 in
    let few = c.min.result in
    let left = c.min-then-text-end-eq46.result in
    let rest = take (length c.args.text.now - (end + 1)) (drop (end + 1) c.args.text.now) in
    record {
      few = omega (arith, length-take left rest, c.min-then-text-end-eq46.ensures);
      room = room_behind c.digits_behind-whole.result.0 end (length (take left rest)) first.small
          (omega (
            arith,
            length-take few c.args.text.now,
            length-take left rest,
            first.within,
            c.min.ensures,
            c.min-then-text-end-eq46.ensures,
          ));
    }

pub returns-then-text-end-eq46 : goal.returns-then-text-end-eq46
returns-then-text-end-eq46 c =
    let first = c.digits_behind-whole.ensures in
    let second = c.digits_behind-size.ensures in
    let end = c.digits_behind-whole.result.1 in
    let few = c.min.result in
    let left = c.min-then-text-end-eq46.result in
    let rest = take (length c.args.text.now - (end + 1)) (drop (end + 1) c.args.text.now) in
    pointed_quick c.args.text.now (take few c.args.text.now) (take left rest) few left
    c.digits_behind-whole.result.0 end c.digits_behind-size.result.0 c.digits_behind-size.result.1
    refl
    (omega (arith, c.min.ensures)) first.within c.if-end-text.true c.if-text-end-eq46.true
    first.digits
    first.value first.small refl (omega (arith, c.min-then-text-end-eq46.ensures)) second.within
    second.digits
    second.value second.small c.if-end-places-lt1.false

pub returns : goal.returns
returns c =
    let first = c.digits_behind-whole.ensures in
    let few = c.min.result in
    whole_quick c.args.text.now (take few c.args.text.now) few c.digits_behind-whole.result.0
    c.digits_behind-whole.result.1 refl (omega (arith, c.min.ensures)) first.within
    c.if-end-lt1.false
    first.digits first.value first.small
