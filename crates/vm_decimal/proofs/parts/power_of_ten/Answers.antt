use Rattle.vm_decimal.proofs.Sizes.{first_powers}
use Rattle.vm_decimal.proofs.parts.power_of_ten.Goals as goal

pub returns : goal.returns
returns c = first_powers c.args.exponent c.requires
