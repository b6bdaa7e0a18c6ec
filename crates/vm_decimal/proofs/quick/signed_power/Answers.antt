use Rattle.std.proofs.Common.{◌≡◌, ◌-◌, length, take, drop, get_or, [], true, false, refl, inl, inr, rules, codes, ◌∙◌, w16}
use Rattle.std.proofs.lemmas.Int.{to_z-of_z}
use Rattle.vm_decimal.proofs.QuickDigits.{first_byte}
use Rattle.vm_decimal.proofs.quick.signed_power.Goals as goal

pub returns-in_ok-few_digits-in-45 : goal.returns-in_ok-few_digits-in-45
returns-in_ok-few_digits-in-45 c =
    let text = c.args.text.now in
    let first : get_or c.args.text.now 0 0 ≡ 45 = search rules in
    record {
      sign = codes "-";
      digits = take (length text - 1) (drop 1 text);
      negative = true;
      size = c.in_ok-few_digits-in-45.field-0;
      parts = first_byte text 45 c.in-45.len_at_least first;
      a_sign = refl;
      are_few = c.in_ok-few_digits-in-45.ensures;
      is = to_z-of_z w16 c.power_of.result (search rules) ∙ c.power_of.ensures;
    }

pub returns-in_ok-few_digits-in-43 : goal.returns-in_ok-few_digits-in-43
returns-in_ok-few_digits-in-43 c =
    let text = c.args.text.now in
    let first : get_or c.args.text.now 0 0 ≡ 43 = search rules in
    record {
      sign = codes "+";
      digits = take (length text - 1) (drop 1 text);
      negative = false;
      size = c.in_ok-few_digits-in-43.field-0;
      parts = first_byte text 43 c.in-43.len_at_least first;
      a_sign = inl refl;
      are_few = c.in_ok-few_digits-in-43.ensures;
      is = to_z-of_z w16 c.power_of-in-43.result (search rules) ∙ c.power_of-in-43.ensures;
    }

pub returns-in_ok-few_digits-in_default : goal.returns-in_ok-few_digits-in_default
returns-in_ok-few_digits-in_default c = record {
  sign = [];
  digits = c.args.text.now;
  negative = false;
  size = c.in_ok-few_digits-in_default.field-0;
  parts = refl;
  a_sign = inr refl;
  are_few = c.in_ok-few_digits-in_default.ensures;
  is = to_z-of_z w16 c.power_of-in_default.result (search rules) ∙ c.power_of-in_default.ensures;
}
