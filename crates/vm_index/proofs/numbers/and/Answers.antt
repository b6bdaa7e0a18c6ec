use Rattle.std.proofs.Common.{true, ◌&&◌, ◌++◌, ap, ◌∙◌, sym, subst}
use Rattle.std.proofs.lemmas.Result.{on_ok_weaker}
use Rattle.vm_index.specs.Numbers.{AreThose, holds, kept}
use Rattle.vm_index.proofs.NumberLaws.{both}
use Rattle.vm_index.proofs.numbers.and.Goals as goal

pub returns-else-is_err-clause-ok : goal.returns-else-is_err-clause-ok
returns-else-is_err-clause-ok c =
    on_ok_weaker c.put_kept-put.result
    (λ is. subst (AreThose (λ n. holds c.args.a.now n && holds c.args.b.now n))
    (sym (is ∙ ap (λ ms. ms ++ kept true c.args.b.now c.args.a.now) c.clear.ensures.items))
    (both c.args.a.now c.args.b.now c.requires.a))
    c.put_kept-put.ensures
