-- The values so far, put before those that are to come.
use Rattle.std.proofs.Common.{◌-◌, ◌≤◌, length, Err, sym, ap, ◌∙◌, w64, to_z, of_z, ◌-ℤ◌, arith, rules}
use Rattle.std.proofs.lemmas.Int.{to_z-of_z}
use Rattle.std.proofs.lemmas.List.{length-set}
use Rattle.vm_codec.specs.inner.Reading.{all_read, lean_after}
use Rattle.vm_codec.proofs.Values.{take_first, first_front, differ, differ_small, same_values, values_more, values_stuck, values_done}
use Rattle.vm_codec.proofs.reading.read_differences.Goals as goal

pub loop-place-init : goal.loop-place-init
loop-place-init c =
    let some : 1 ≤ length c.args.into.now = c.requires.some in
    record {
      bound = rw (to_z-of_z w64 c.args.first c.ranges.first) c.requires.bound;
      lean = omega arith;
      shorter = omega arith;
      read = rw take_first (first_front _ _);
    }

pub returns-in_default-clause-broken : goal.returns-in_default-clause-broken
returns-in_default-clause-broken c =
    ap (all_read (length c.args.bytes.now))
    (same_values c.args.coding _ _ _ _ c.args.bytes.now (to_z-of_z w64 c.args.first c.ranges.first)
    (ap (λ n. n - 1) (length-set c.args.into.now 0 _))
    ∙ values_stuck c.args.coding c.loop-place.place _ _ c.loop-place.into c.loop-place.rest.now
    _ (omega arith)
    (sym c.in_default.ensures.value) c.loop-place.invariant.read)
    ∙ ap Err (sym c.left_at.ensures)

pub loop-place-preserved : goal.loop-place-preserved
loop-place-preserved c =
    let next = to_z-of_z w64 c.in-Some.next (search rules) in
    let value = c.loop-place.invariant.bound in
    let difference = ap (λ n. to_z w64 (of_z w64 (n -ℤ to_z w64 c.loop-place.value-bits))) next
    ∙ differ c.in-Some.next (to_z w64 c.loop-place.value-bits) c.in-Some.ensures.bound value in
    let small =
    rw (← difference) at
    (differ_small c.in-Some.next (to_z w64 c.loop-place.value-bits) c.in-Some.ensures.bound
    value) in
    let lean = to_z-of_z w64 c.lean_after-lean.result (search rules) in
    record {
      bound = rw next c.in-Some.ensures.bound;
      lean = rw lean (omega (arith, c.lean_after-lean.ensures.small, small));
      shorter = omega (arith, c.in-Some.ensures.shorter);
      read =
          values_more c.args.coding c.loop-place.place _ _ _ c.in-Some.next _ c.loop-place.into
          c.loop-place.rest.now c.in-Some.more.now _
          (omega arith) (sym c.in-Some.ensures.value)
          (lean ∙ c.lean_after-lean.ensures.value ∙ ap (lean_after c.args.coding) difference)
          next
          c.loop-place.invariant.read;
    }

pub returns-clause-read : goal.returns-clause-read
returns-clause-read c =
    same_values c.args.coding _ _ _ _ c.args.bytes.now (to_z-of_z w64 c.args.first c.ranges.first)
    (ap (λ n. n - 1) (length-set c.args.into.now 0 _))
    ∙ values_done c.args.coding c.loop-place.place _ _ c.loop-place.into c.loop-place.rest.now
    _ (omega arith) c.loop-place.invariant.read
