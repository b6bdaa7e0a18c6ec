use Rattle.std.proofs.Common.{◌-◌, length, take, drop, refl, rules, ◌∙◌, w16, w64}
use Rattle.std.proofs.lemmas.Int.{to_z-of_z}
use Rattle.std.specs.Int.{w128}
use Rattle.vm_decimal.proofs.QuickDigits.{quick_found}
use Rattle.vm_decimal.proofs.quick.unsigned_number.Goals as goal

pub returns : goal.returns
returns c =
    let text = c.args.text.now in
    let m = c.in_ok-mantissa.mantissa in
    let power = c.in_ok-power.power in
    let mantissa = to_z-of_z w128 c.with_sign.result (search rules) ∙ c.with_sign.ensures in
    let last_same = to_z-of_z w64 c.last_exponent.result (search rules) in
    let power_same = to_z-of_z w16 c.in_ok-power.power (search rules) in
    quick_found c.args.negative text (take (length text - m.len) (drop m.len text)) _ m.size
    m.places m.len power
    c.in_ok-mantissa.ensures refl c.in_ok-power.ensures mantissa
    (last_same ∙ rw power_same at c.last_exponent.ensures)
