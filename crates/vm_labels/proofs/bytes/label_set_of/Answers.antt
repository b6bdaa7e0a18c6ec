use Rattle.std.proofs.Common.{arith}
use Rattle.vm_labels.proofs.ReadLaws.{follow_labels, fields_took, stop_inside, broken_at, limits_kept}
use Rattle.vm_labels.proofs.bytes.label_set_of.Goals as goal

pub from_pairs-requires : goal.from_pairs-requires
from_pairs-requires c =
    follow_labels c.in-Ok.pairs
    (fields_took c.args.bytes.now c.in-Ok.pairs (λ i. omega (arith, c.type_inv.bytes i))
    c.in-Ok.ensures).1

pub fault_of-requires : goal.fault_of-requires
fault_of-requires c = stop_inside _ c.args.bytes.now c.in-Err.ensures

pub returns-in-Ok : goal.returns-in-Ok
returns-in-Ok c =
    limits_kept c.args.bytes.now c.in-Ok.pairs c.from_pairs.result c.limited.result c.in-Ok.ensures
    c.from_pairs.ensures c.limited.ensures

pub returns-in-Err : goal.returns-in-Err
returns-in-Err c = broken_at _ c.args.bytes.now _ c.in-Err.ensures c.fault_of.ensures
