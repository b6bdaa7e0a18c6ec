use Rattle.std.proofs.Common.{◌∙◌}
use Rattle.vm_decimal.specs.Parts.{value}
use Rattle.vm_decimal.proofs.Divisions.{multiple-some}
use Rattle.vm_decimal.proofs.dec.Dec.round_to.Goals as goal

pub returns : goal.returns
returns c =
    c.or_range.ensures
    ∙ multiple-some (value c.in_parts.result) c.args.self (value c.in_parts-2.result) c.args.unit
    c.in_parts.ensures.value c.in_parts-2.ensures.value c.multiple.ensures
