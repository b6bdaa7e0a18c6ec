use Rattle.vm_decimal.proofs.QuickDigits.{quick_dec}
use Rattle.vm_decimal.proofs.dec_text.quick_dec.Goals as goal

pub returns : goal.returns
returns c =
    quick_dec c.args.text.now c.in_ok-number.number c.dec_of_quick.result c.in_ok-number.ensures
    c.dec_of_quick.ensures
