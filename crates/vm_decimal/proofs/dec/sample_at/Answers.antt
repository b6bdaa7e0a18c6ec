use Rattle.std.proofs.Common.{rules, pos, ◌-ℤ◌, ap₂, ◌∙◌, arith, w16, w64}
use Rattle.std.proofs.lemmas.Int.{ints, to_z-of_z}
use Rattle.vm_base.specs.Sample.{sample_of}
use Rattle.vm_decimal.proofs.DecForms.{as_sample-form}
use Rattle.vm_decimal.proofs.dec.sample_at.Goals as goal

pub returns : goal.returns
returns c =
    let m = to_z-of_z w64 c.mantissa.result (search rules) ∙ c.mantissa.ensures in
    let e = to_z-of_z w16 c.exponent_of.result (search rules) ∙ c.exponent_of.ensures in
    c.of.ensures ∙ ap₂ sample_of m e
    ∙ as_sample-form c.args.negative c.args.size c.args.shift (pos c.args.shift -ℤ pos 1000)
    (omega (arith, ints))
