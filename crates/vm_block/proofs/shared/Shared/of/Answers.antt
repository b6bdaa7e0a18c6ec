-- The exponent and the mantissa of one value.
use Rattle.std.proofs.Common.{unsigned_abs, ap, ◌∙◌, w64, rules}
use Rattle.std.proofs.lemmas.Int.{to_z-of_z}
use Rattle.vm_block.proofs.Exponents.{one_shared}
use Rattle.vm_block.proofs.shared.Shared.of.Goals as goal

pub returns : goal.returns
returns c =
    one_shared c.args.value _ c.m.ensures.sample c.shift_of.ensures.value
    (c.unsigned_abs.ensures.value
    ∙ ap unsigned_abs (to_z-of_z w64 c.m.result (search rules) ∙ c.m.ensures.value))
