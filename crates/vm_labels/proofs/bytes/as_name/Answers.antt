use Rattle.std.specs.Prelude.{option_copied}
use Rattle.vm_labels.proofs.BytesLaws.{name_refused}
use Rattle.vm_labels.proofs.bytes.as_name.Goals as goal

pub returns-in-Err : goal.returns-in-Err
returns-in-Err c =
    name_refused (option_copied c.args.last) c.args.bytes.now c.in-Err.ensures.cases.0
