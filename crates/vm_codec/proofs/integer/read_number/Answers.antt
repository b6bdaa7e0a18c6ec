-- What the groups read so far are worth, put before what stands at the front.
use Rattle.std.proofs.Common.{◌+◌, ◌*◌, ◌^◌, ◌<◌, refl, arith}
use Rattle.std.proofs.lemmas.Bool.{eq-eqb, lt-ltb}
use Rattle.vm_codec.proofs.Groups.{at_front, no_more, scale_small, scale_more, group_small, ends, may_end, goes_on}
use Rattle.vm_codec.proofs.integer.read_number.Goals as goal

pub loop-place-init : goal.loop-place-init
loop-place-init c =
    record {
      scale = refl;
      below = omega arith;
      shorter = omega arith;
      read = at_front c.args.bytes.now;
    }

pub returns-in_err-byte-clause-value : goal.returns-in_err-byte-clause-value
returns-in_err-byte-clause-value c =
    rw c.from_residual.ensures
    (no_more c.loop-place.place c.loop-place.number c.loop-place.scale c.loop-place.rest.now
    c.args.bytes.now
    c.in_err-byte.ensures.cases c.loop-place.invariant.read)

pub overflow_mul-number : goal.overflow_mul-number
overflow_mul-number c =
    omega (
      arith,
      group_small c.loop-place.number c.loop-place.scale c.from-group.result c.loop-place.place
          c.loop-place.invariant.scale c.loop-place.invariant.below c.loop-place-test.true
          (omega arith),
    )

pub overflow_add-number : goal.overflow_add-number
overflow_add-number c =
    omega (
      arith,
      group_small c.loop-place.number c.loop-place.scale c.from-group.result c.loop-place.place
          c.loop-place.invariant.scale c.loop-place.invariant.below c.loop-place-test.true
          (omega arith),
    )

pub overflow_mul-scale : goal.overflow_mul-scale
overflow_mul-scale c =
    omega (
      arith,
      scale_small c.loop-place.scale c.loop-place.place c.loop-place.invariant.scale
          c.loop-place-test.true,
    )

pub returns-then-place-gt0-clause-value : goal.returns-then-place-gt0-clause-value
returns-then-place-gt0-clause-value c =
    let small =
    group_small c.loop-place.number c.loop-place.scale c.from-group.result c.loop-place.place
    c.loop-place.invariant.scale c.loop-place.invariant.below c.loop-place-test.true
    (omega arith) in
    let fits : c.loop-place.number + c.from-group.result * c.loop-place.scale < 2 ^ 64 =
    omega arith in
    let read =
    ends c.loop-place.place c.loop-place.number c.loop-place.scale c.in_ok-byte.byte.now
    c.from-group.result
    c.in_ok-byte.more.now c.loop-place.rest.now c.args.bytes.now c.in_ok-byte.ensures.cases.0
    c.if-byte-lt128.true
    c.from-group.ensures fits c.loop-place-test.true c.loop-place.invariant.read in
    let follows = lt-ltb 0 c.loop-place.place c.if-place-gt0.true in
    let nought = eq-eqb c.from-group.result 0 c.if-group-eq0.true in
    rw (follows, nought) at read

pub returns-else-group-eq0-clause-value : goal.returns-else-group-eq0-clause-value
returns-else-group-eq0-clause-value c =
    let small =
    group_small c.loop-place.number c.loop-place.scale c.from-group.result c.loop-place.place
    c.loop-place.invariant.scale c.loop-place.invariant.below c.loop-place-test.true
    (omega arith) in
    let fits : c.loop-place.number + c.from-group.result * c.loop-place.scale < 2 ^ 64 =
    omega arith in
    let read =
    ends c.loop-place.place c.loop-place.number c.loop-place.scale c.in_ok-byte.byte.now
    c.from-group.result
    c.in_ok-byte.more.now c.loop-place.rest.now c.args.bytes.now c.in_ok-byte.ensures.cases.0
    c.if-byte-lt128.true
    c.from-group.ensures fits c.loop-place-test.true c.loop-place.invariant.read in
    let kept = may_end c.loop-place.place c.from-group.result c.else-group-eq0.either in
    rw kept at read

pub loop-place-preserved : goal.loop-place-preserved
loop-place-preserved c = record {
  scale = scale_more c.loop-place.scale c.loop-place.place c.loop-place.invariant.scale;
  below = omega (
    arith,
    group_small c.loop-place.number c.loop-place.scale c.from-group.result c.loop-place.place
        c.loop-place.invariant.scale c.loop-place.invariant.below c.loop-place-test.true
        (omega arith),
  );
  shorter = omega (arith, c.in_ok-byte.ensures.cases.1);
  read =
      goes_on c.loop-place.place c.loop-place.number c.loop-place.scale c.in_ok-byte.byte.now
      c.from-group.result
      c.in_ok-byte.more.now c.loop-place.rest.now c.args.bytes.now c.in_ok-byte.ensures.cases.0
      c.if-byte-lt128.false
      (omega arith) c.from-group.ensures c.loop-place-test.true c.loop-place.invariant.read;
}
