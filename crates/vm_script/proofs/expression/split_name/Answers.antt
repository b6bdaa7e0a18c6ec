use Rattle.vm_script.proofs.ItemLaws.{name_boundary}
use Rattle.vm_script.proofs.expression.split_name.Goals as goal

pub split_at-requires : goal.split_at-requires
split_at-requires c =
    rw (c.name_len.ensures.value, c.as_bytes.ensures.value)
    (name_boundary c.args.text.now c.utf8.text)
