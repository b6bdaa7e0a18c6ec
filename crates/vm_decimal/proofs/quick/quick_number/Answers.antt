use Rattle.vm_decimal.proofs.QuickDigits.{quick_some}
use Rattle.vm_decimal.proofs.quick.quick_number.Goals as goal

pub returns : goal.returns
returns c =
    let split = c.behind_minus-negative in
    quick_some split.result.0 c.args.text.now split.ensures.sign split.result.1.now
    c.unsigned_number.result
    split.ensures.parts split.ensures.a_sign c.unsigned_number.ensures
