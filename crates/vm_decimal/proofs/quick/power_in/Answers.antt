use Rattle.std.proofs.Common.{◌≡◌, ◌-◌, length, take, drop, get_or, refl, inl, inr, rules}
use Rattle.vm_decimal.proofs.QuickDigits.{first_byte, marked_some}
use Rattle.vm_decimal.proofs.quick.power_in.Goals as goal

pub returns-in-101 : goal.returns-in-101
returns-in-101 c =
    let text = c.args.text.now in
    let first : get_or c.args.text.now 0 0 ≡ 101 = search rules in
    marked_some text (take (length text - 1) (drop 1 text)) 101 c.signed_power.result
    (first_byte text 101 c.in-101.len_at_least first) (inl refl) c.signed_power.ensures

pub returns-in-69 : goal.returns-in-69
returns-in-69 c =
    let text = c.args.text.now in
    let first : get_or c.args.text.now 0 0 ≡ 69 = search rules in
    marked_some text (take (length text - 1) (drop 1 text)) 69 c.signed_power-in-69.result
    (first_byte text 69 c.in-69.len_at_least first) (inr refl) c.signed_power-in-69.ensures
