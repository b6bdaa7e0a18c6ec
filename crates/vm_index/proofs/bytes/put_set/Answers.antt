use Rattle.std.proofs.Common.{◌++◌, length, ap, ◌∙◌, arith}
use Rattle.vm_labels.specs.Bytes.{label_set_bytes}
use Rattle.vm_index.proofs.BytesLaws.{set_fits}
use Rattle.vm_index.proofs.bytes.put_set.Goals as goal

pub overflow_cast-len : goal.overflow_cast-len
overflow_cast-len c =
    let is = c.in_ok-bytes.ensures.ok
    ∙ ap (λ bs. bs ++ label_set_bytes c.args.set.now) c.clear.ensures.items in
    omega (arith, ap length is, c.len.ensures, set_fits c.args.set.now c.requires)
