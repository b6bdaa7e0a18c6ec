use Rattle.std.proofs.Common.{◌≡◌, ◌++◌, ◌∷◌, take, map}
use Rattle.mql_expr.specs.Canonical.{text_of, parted, placed}
use Rattle.mql_expr.specs.Tree.{tree}
use Rattle.mql_expr.proofs.PartedLaws.{comma, binding_of}
use Rattle.mql_expr.proofs.query_text.+print.Given as goal

abbrev pub invariant-put_args-loop-index : goal.invariant-put_args-loop-index
invariant-put_args-loop-index l = l.out.items ≡ l.fn.out.items
    ++ 40 ∷ text_of (parted comma (map (λ e. placed 1 (tree e)) (take l.index l.args)))

abbrev pub invariant-put_templates-loop-index : goal.invariant-put_templates-loop-index
invariant-put_templates-loop-index l = l.out.items ≡ l.fn.out.items
    ++ 40 ∷ text_of (parted comma (map binding_of (take l.index l.templates)))
