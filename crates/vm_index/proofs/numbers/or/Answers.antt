use Rattle.std.proofs.Common.{◌||◌, ◌++◌, ap, ◌∙◌, sym, subst}
use Rattle.std.proofs.lemmas.Result.{on_ok_weaker}
use Rattle.vm_index.specs.Numbers.{AreThose, holds, merged}
use Rattle.vm_index.proofs.NumberLaws.{either}
use Rattle.vm_index.proofs.numbers.or.Goals as goal

pub returns-else-is_err-clause-ok : goal.returns-else-is_err-clause-ok
returns-else-is_err-clause-ok c =
    on_ok_weaker c.put_all-put.result
    (λ is. subst (AreThose (λ n. holds c.args.a.now n || holds c.args.b.now n))
    (sym (is ∙ ap (λ ms. ms ++ merged c.args.a.now c.args.b.now) c.clear.ensures.items))
    (either c.args.a.now c.args.b.now c.requires.a c.requires.b))
    c.put_all-put.ensures
