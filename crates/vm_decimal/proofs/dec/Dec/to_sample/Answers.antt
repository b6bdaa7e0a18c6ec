use Rattle.std.proofs.Common.{ap, sym, ◌∙◌, arith}
use Rattle.vm_decimal.specs.Dec.{as_sample}
use Rattle.vm_decimal.proofs.DecForms.{as_sample-wide}
use Rattle.vm_decimal.proofs.dec.Dec.to_sample.Goals as goal

pub returns-then-parts-ge-SAMPLE_SIZES : goal.returns-then-parts-ge-SAMPLE_SIZES
returns-then-parts-ge-SAMPLE_SIZES c =
    let p = c.in_parts-parts.result in
    sym (ap as_sample (sym c.in_parts-parts.ensures.value)
    ∙ as_sample-wide p.negative p.size p.shift c.in_parts-parts.ensures.form (omega arith))

pub returns : goal.returns
returns c = c.sample_at.ensures ∙ ap as_sample c.in_parts-parts.ensures.value
