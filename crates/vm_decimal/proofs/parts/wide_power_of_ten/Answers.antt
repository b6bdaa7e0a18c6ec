use Rattle.std.proofs.Common.{◌≡◌, ◌-◌, ◌*◌, ◌^◌, ap, ap₂, sym, ◌∙◌, arith, pow-add}
use Rattle.vm_decimal.proofs.parts.wide_power_of_ten.Goals as goal

pub returns : goal.returns
returns c =
    let more = c.from-exponent.result - 19 in
    let split : 10 ^ 19 * 10 ^ (c.from-exponent.result - 19) ≡ 10 ^ c.args.exponent =
    sym (pow-add 10 19 more) ∙ ap (λ n. 10 ^ n) (omega arith) in
    ap₂ ◌*◌ (c.from-2.ensures ∙ c.power_of_ten-2.ensures)
    (c.from-3.ensures ∙ c.power_of_ten-3.ensures) ∙ split
