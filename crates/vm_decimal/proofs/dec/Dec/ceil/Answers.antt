use Rattle.std.proofs.Common.{◌*◌, ◌^◌, ap, sym, ◌∙◌, arith}
use Rattle.vm_decimal.specs.Arithmetic.{ceil_of}
use Rattle.vm_decimal.proofs.Wholes.{ceil_whole, ceil_signed}
use Rattle.vm_decimal.proofs.dec.Dec.ceil.Goals as goal

pub returns-then-parts-ge-ONES : goal.returns-then-parts-ge-ONES
returns-then-parts-ge-ONES c =
    let parts = c.in_parts-parts.result in
    ceil_whole parts.negative parts.size parts.shift c.args.self c.in_parts-parts.ensures.value
    (omega arith)

pub returns : goal.returns
returns c =
    let parts = c.in_parts-parts.result in
    c.whole_part.ensures ∙ sym (ceil_signed parts.negative (parts.size * 10 ^ parts.shift))
    ∙ ap ceil_of c.in_parts-parts.ensures.value
