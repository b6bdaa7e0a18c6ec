-- The parts of the number are the sample's.
use Rattle.std.proofs.Common.{refl, rules, ◌∙◌, unsigned_abs, w16, w64, to_z, of_z}
use Rattle.std.proofs.lemmas.Int.{to_z-of_z}
use Rattle.std.specs.Int.{w128}
use Rattle.vm_decimal.proofs.SampleForms.{dec_form, dec_number}
use Rattle.vm_decimal.proofs.dec.Dec.of_sample.Goals as goal

pub invariant_of-result : goal.invariant_of-result
invariant_of-result c =
    let all = to_z w128 (of_z w128 c.from.result) in
    let m =
    to_z-of_z w128 c.from.result (search rules) ∙ c.from.ensures
    ∙ to_z-of_z w64 c.m.result (search rules)
    ∙ c.m.ensures.value in
    let e = to_z-of_z w16 c.e.result (search rules) ∙ c.e.ensures.value in
    dec_form c.args.sample all (to_z w16 (of_z w16 c.e.result)) (unsigned_abs all) c.shift_of.result
    c.m.ensures.sample m refl e c.shift_of.ensures

pub returns : goal.returns
returns c =
    let all = to_z w128 (of_z w128 c.from.result) in
    let m =
    to_z-of_z w128 c.from.result (search rules) ∙ c.from.ensures
    ∙ to_z-of_z w64 c.m.result (search rules)
    ∙ c.m.ensures.value in
    let e = to_z-of_z w16 c.e.result (search rules) ∙ c.e.ensures.value in
    dec_number c.args.sample all (to_z w16 (of_z w16 c.e.result)) (unsigned_abs all)
    c.shift_of.result
    c.m.ensures.sample m refl e c.shift_of.ensures
