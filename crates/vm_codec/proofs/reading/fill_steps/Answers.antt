-- The values so far, put before those that are to come.
use Rattle.std.proofs.Common.{◌-◌, ◌≤◌, length, refl, sym, ap, ◌∙◌, w64, arith, rules}
use Rattle.std.proofs.lemmas.Int.{to_z-of_z}
use Rattle.std.proofs.lemmas.List.{length-set}
use Rattle.vm_codec.proofs.Values.{take_first, same_steps, steps_more, steps_stuck, steps_done}
use Rattle.vm_codec.proofs.reading.fill_steps.Goals as goal

pub loop-place-init : goal.loop-place-init
loop-place-init c = let some : 1 ≤ length c.args.into.now = c.requires.some in rw take_first refl

pub returns-in_default : goal.returns-in_default
returns-in_default c =
    same_steps _ _ _ _ _ _ (to_z-of_z w64 c.args.first c.ranges.first)
    (to_z-of_z w64 c.args.step c.ranges.step)
    (ap (λ n. n - 1) (length-set c.args.into.now 0 _))
    ∙ steps_stuck c.loop-place.place _ _ c.loop-place.into _ (omega arith)
    (sym c.bounded_sum.ensures.value ∙ c.in_default.is) c.loop-place.invariant

pub loop-place-preserved : goal.loop-place-preserved
loop-place-preserved c =
    steps_more c.loop-place.place _ _ _ c.in-Some.next c.loop-place.into _ (omega arith)
    (sym c.bounded_sum.ensures.value ∙ c.in-Some.is) (to_z-of_z w64 c.in-Some.next (search rules))
    c.loop-place.invariant

pub returns : goal.returns
returns c =
    same_steps _ _ _ _ _ _ (to_z-of_z w64 c.args.first c.ranges.first)
    (to_z-of_z w64 c.args.step c.ranges.step)
    (ap (λ n. n - 1) (length-set c.args.into.now 0 _))
    ∙ steps_done c.loop-place.place _ _ c.loop-place.into _ (omega arith) c.loop-place.invariant
