use Rattle.std.proofs.Common.{◌*◌, ◌^◌, ap, sym, ◌∙◌, arith}
use Rattle.vm_decimal.specs.Arithmetic.{floor_of}
use Rattle.vm_decimal.proofs.Wholes.{floor_whole, floor_signed}
use Rattle.vm_decimal.proofs.dec.Dec.floor.Goals as goal

pub returns-then-parts-ge-ONES : goal.returns-then-parts-ge-ONES
returns-then-parts-ge-ONES c =
    let parts = c.in_parts-parts.result in
    floor_whole parts.negative parts.size parts.shift c.args.self c.in_parts-parts.ensures.value
    (omega arith)

pub returns : goal.returns
returns c =
    let parts = c.in_parts-parts.result in
    c.whole_part.ensures ∙ sym (floor_signed parts.negative (parts.size * 10 ^ parts.shift))
    ∙ ap floor_of c.in_parts-parts.ensures.value
