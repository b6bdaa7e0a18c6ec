-- One sample more, or none.
use Rattle.std.proofs.Common.{◌≤ℤ◌, ℤ, pos, negsuc, ◌+◌, take, slice_index_or, unsigned_abs, ap, ap₂, sym, subst, ◌∙◌, w16, w64, to_z, of_z, arith, rules}
use Rattle.std.proofs.lemmas.Int.{to_z-of_z}
use Rattle.vm_base.specs.Sample.{sample_of}
use Rattle.vm_block.specs.inner.Reading.{AreStamped}
use Rattle.vm_block.proofs.Stamps.{stamp_more, no_sample}
use Rattle.vm_block.proofs.decode.stamp.Goals as goal

pub returns-in_default-clause-none : goal.returns-in_default-clause-none
returns-in_default-clause-none c =
    let item = slice_index_or c.args.mantissas.now c.loop-place.place (pos 0) in
    let m = to_z-of_z w64 item (search rules) in
    let e = to_z-of_z w16 c.args.exponent c.ranges.exponent in
    no_sample c.args.exponent c.args.mantissas.now c.loop-place.place c.requires.exponent
    (omega (arith, c.loop-place-test.true))
    (sym c.in_default.is ∙ c.of.ensures ∙ ap₂ sample_of m e)

pub loop-place-preserved : goal.loop-place-preserved
loop-place-preserved c =
    let e = to_z w16 (of_z w16 c.args.exponent) in
    let place = c.loop-place.place in
    let low : negsuc 349 ≤ℤ e =
    rw (to_z-of_z w16 c.args.exponent c.ranges.exponent) c.requires.exponent in
    let m = to_z-of_z w64 (slice_index_or c.args.mantissas.now place (pos 0)) (search rules) in
    let t = to_z-of_z w64 (slice_index_or c.args.times.now place (pos 0)) (search rules) in
    subst (AreStamped e (take (place + 1) c.args.times.now) (take (place + 1) c.args.mantissas.now))
    (sym c.in_ok-push.ensures.items)
    (stamp_more e c.args.times.now c.args.mantissas.now place c.loop-place.samples.items
    c.unsigned_abs.result c.in-Some.value low
    c.loop-place-test.true (omega (arith, c.loop-place-test.true))
    (c.unsigned_abs.ensures.value ∙ ap unsigned_abs t)
    (sym c.in-Some.is ∙ c.of.ensures ∙ ap (λ (z : ℤ). sample_of z e) m)
    c.loop-place.invariant)
