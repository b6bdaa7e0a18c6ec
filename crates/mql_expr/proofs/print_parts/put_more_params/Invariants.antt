use Rattle.std.proofs.Common.{◌≡◌, ◌++◌, ◌∷◌, take}
use Rattle.std.specs.Prelude.{flat_map}
use Rattle.mql_expr.proofs.print_parts.put_more_params.Given as goal

abbrev pub invariant-loop-param : goal.invariant-loop-param
invariant-loop-param l = l.out.items ≡ l.fn.out.items
    ++ flat_map (λ param. 44 ∷ param.name) (take l.param-index l.params)
