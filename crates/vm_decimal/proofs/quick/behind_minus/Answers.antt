use Rattle.std.proofs.Common.{◌≡◌, get_or, [], refl, inr, rules, codes}
use Rattle.vm_decimal.proofs.QuickDigits.{first_byte}
use Rattle.vm_decimal.proofs.quick.behind_minus.Goals as goal

pub returns-in-45 : goal.returns-in-45
returns-in-45 c =
    let text = c.args.text.now in
    let first : get_or c.args.text.now 0 0 ≡ 45 = search rules in
    record {
      sign = codes "-";
      parts = first_byte text 45 c.in-45.len_at_least first;
      a_sign = refl;
    }

pub returns-in_default : goal.returns-in_default
returns-in_default c = record { sign = []; parts = refl; a_sign = inr refl }
