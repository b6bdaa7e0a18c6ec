use Rattle.std.proofs.Common.{◌≡◌, eqb, false, length, sym, ap, ◌∙◌}
use Rattle.vm_labels.proofs.BytesLaws.{value_taken, value_refused}
use Rattle.vm_labels.proofs.bytes.as_value.Goals as goal

pub returns-else-is_empty : goal.returns-else-is_empty
returns-else-is_empty c =
    let same = c.in-Ok.ensures.cases.0 in
    let some : eqb (length c.args.bytes.now) 0 ≡ false = ap (λ t. eqb (length t) 0) (sym same)
    ∙ sym c.is_empty.ensures ∙ c.if-is_empty.false in
    rw same (value_taken c.args.bytes.now c.in-Ok.ensures.cases.1 some)

pub returns-in-Err : goal.returns-in-Err
returns-in-Err c = value_refused c.args.bytes.now c.in-Err.ensures.cases.0
