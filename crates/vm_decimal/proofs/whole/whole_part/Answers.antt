use Rattle.std.proofs.Common.{◌-◌, ◌*◌, refl, ap, ◌∙◌}
use Rattle.vm_base.specs.Number.{signed}
use Rattle.vm_decimal.specs.Arithmetic.{ones}
use Rattle.vm_decimal.proofs.Wholes.{cut_places}
use Rattle.vm_decimal.proofs.whole.whole_part.Goals as goal

pub returns : goal.returns
returns c =
    let parts = c.args.parts in
    c.whole_number.ensures
    ∙ ap (λ q. signed parts.negative (q * ones))
    (cut_places c.args.away parts.size parts.shift (1000 - parts.shift) c.cut.result refl
    c.requires.low
    c.cut.ensures.value)
