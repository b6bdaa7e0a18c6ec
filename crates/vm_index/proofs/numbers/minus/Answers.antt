use Rattle.std.proofs.Common.{false, ◌&&◌, not, ◌++◌, ap, ◌∙◌, sym, subst}
use Rattle.std.proofs.lemmas.Result.{on_ok_weaker}
use Rattle.vm_index.specs.Numbers.{AreThose, holds, kept}
use Rattle.vm_index.proofs.NumberLaws.{without}
use Rattle.vm_index.proofs.numbers.minus.Goals as goal

pub returns-else-is_err-clause-ok : goal.returns-else-is_err-clause-ok
returns-else-is_err-clause-ok c =
    on_ok_weaker c.put_kept-put.result
    (λ is. subst (AreThose (λ n. holds c.args.a.now n && not (holds c.args.b.now n)))
    (sym (is ∙ ap (λ ms. ms ++ kept false c.args.b.now c.args.a.now) c.clear.ensures.items))
    (without c.args.a.now c.args.b.now c.requires.a))
    c.put_kept-put.ensures
