-- The bytes that are left are those that were written.
use Rattle.std.proofs.Common.{take, length, ap, sym, subst, ◌∙◌, arith}
use Rattle.std.proofs.lemmas.List.{take_at}
use Rattle.vm_codec.specs.Coding.{IsColumn}
use Rattle.vm_block.proofs.encode.write_column.Goals as goal

pub returns-clause-bytes : goal.returns-clause-bytes
returns-clause-bytes c =
    λ first begins.
    let whole =
    take_at c.encode-len.new.into _ c.in_ok-bytes.bytes.len
    (omega (arith, c.deref_mut.ensures.len)) in
    subst (λ bs.
    IsColumn c.choose-coding.result first (length c.args.values.now) bs c.args.values.now)
    (sym (c.truncate.ensures.items ∙ ap (take c.encode-len.result) whole))
    (c.encode-len.ensures.column first begins)
