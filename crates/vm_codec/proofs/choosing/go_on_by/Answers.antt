-- The test so far is that of the rest.
use Rattle.std.proofs.Common.{◌-ℤ◌, pos, slice_index_or, ap, sym, ◌∙◌, w64, to_z, of_z, rules}
use Rattle.std.specs.Ordering.{int_eq}
use Rattle.std.proofs.lemmas.Int.{to_z-of_z}
use Rattle.vm_codec.proofs.Chosen.{same_test, other_step, one_step_more, no_step_more}
use Rattle.vm_codec.proofs.choosing.go_on_by.Goals as goal

pub returns-then-not-is_step : goal.returns-then-not-is_step
returns-then-not-is_step c =
    let step = to_z w64 (of_z w64 c.args.step) in
    let last = to_z w64 c.loop-value.last-bits in
    let item = slice_index_or c.args.values.now c.loop-value.value-index (pos 0) in
    let same = to_z-of_z w64 item (search rules) in
    other_step step last item c.loop-value.value-index c.args.values.now _ c.loop-value-test.true
    (search rules)
    (ap (λ n. int_eq step (n -ℤ last)) (sym same) ∙ sym c.is_step.ensures ∙ c.if-not-is_step.true)
    c.loop-value.invariant.equal
    ∙ same_test _ _ _ _ c.args.values.now (to_z-of_z w64 c.args.step c.ranges.step)
    (to_z-of_z w64 c.args.last c.ranges.last)

pub loop-value-preserved : goal.loop-value-preserved
loop-value-preserved c =
    let step = to_z w64 (of_z w64 c.args.step) in
    let last = to_z w64 c.loop-value.last-bits in
    let item = slice_index_or c.args.values.now c.loop-value.value-index (pos 0) in
    let same = to_z-of_z w64 item (search rules) in
    let inside = c.requires.bounds c.loop-value.value-index (pos 0) c.loop-value-test.true in
    record {
      last = rw same inside;
      equal =
          one_step_more step last item _ c.loop-value.value-index c.args.values.now
          _ c.loop-value-test.true (search rules) same
          (ap (λ n. int_eq step (n -ℤ last)) (sym same) ∙ sym c.is_step.ensures
          ∙ c.if-not-is_step.false) c.loop-value.invariant.equal;
    }

pub returns : goal.returns
returns c =
    no_step_more _ _ c.loop-value.value-index c.args.values.now _ c.loop-value-test.false
    c.loop-value.invariant.equal
    ∙ same_test _ _ _ _ c.args.values.now (to_z-of_z w64 c.args.step c.ranges.step)
    (to_z-of_z w64 c.args.last c.ranges.last)
