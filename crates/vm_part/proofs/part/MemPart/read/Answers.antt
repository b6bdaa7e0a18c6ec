-- A part is refused for want of memory alone.
use Rattle.std.proofs.Common.{subst}
use Rattle.std.proofs.lemmas.Result.{err_from_is_err_and}
use Rattle.vm_part.specs.Broken.{IsReadFault}
use Rattle.vm_part.proofs.Unbroken.{nothing_but_memory}
use Rattle.vm_part.proofs.part.MemPart.read.Goals as goal

pub returns-in_err-found-clause-only : goal.returns-in_err-found-clause-only
returns-in_err-found-clause-only c = λ all is long.
    let fault = c.in_err-found.field-0.0 in
    let p = err_from_is_err_and c.from_residual.result c.from_residual.ensures.1 in
    rw (p.1, p.2) (nothing_but_memory c.args.len c.args.bytes.items all fault is long
    (subst (λ bs. IsReadFault c.args.len bs fault) c.as_slice.ensures.value
    c.in_err-found.ensures.broken))
