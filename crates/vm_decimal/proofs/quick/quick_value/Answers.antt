use Rattle.std.proofs.Common.{rules, ap₂, ◌∙◌, w64}
use Rattle.std.proofs.lemmas.Int.{to_z-of_z}
use Rattle.std.specs.Int.{w128}
use Rattle.vm_base.specs.Sample.{sample_of}
use Rattle.vm_decimal.proofs.QuickDigits.{quick_sample}
use Rattle.vm_decimal.proofs.quick.quick_value.Goals as goal

pub returns : goal.returns
returns c =
    let n = c.in_ok-number.number in
    let m = c.in_ok-mantissa in
    quick_sample c.args.text.now n m.mantissa c.sample_of.result c.in_ok-number.ensures
    (m.ensures.value ∙ to_z-of_z w128 n.mantissa (search rules)) m.ensures.few
    (c.sample_of.ensures
    ∙ ap₂ sample_of (to_z-of_z w64 m.mantissa (search rules))
    (to_z-of_z w64 n.exponent (search rules)))
