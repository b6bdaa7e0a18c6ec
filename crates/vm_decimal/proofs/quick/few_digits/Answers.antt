use Rattle.std.proofs.Common.{◌<◌, length, arith}
use Rattle.std.proofs.lemmas.Bool.Decides.{nat_tests}
use Rattle.vm_decimal.proofs.QuickDigits.{all_digits}
use Rattle.vm_decimal.proofs.quick.few_digits.Goals as goal

pub returns : goal.returns
returns c =
    let some : 0 < length c.args.text.now = grind (arith, nat_tests) in
    let digits = c.leading_digits-size.ensures in
    all_digits c.args.text.now c.leading_digits-size.result.0 c.leading_digits-size.result.1 some
    (omega arith) digits.within (omega arith) digits.digits digits.value digits.small
