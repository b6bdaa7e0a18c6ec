use Rattle.std.proofs.Common.{◌≡◌, ◌++◌, take}
use Rattle.std.specs.Prelude.{flat_map, codes}
use Rattle.mql_expr.specs.Canonical.{text_of, list_pieces}
use Rattle.mql_expr.proofs.print_parts.put_more_lists.Given as goal

abbrev pub invariant-loop-items : goal.invariant-loop-items
invariant-loop-items l = l.out.items ≡ l.fn.out.items
    ++ flat_map (λ items. codes " or " ++ text_of (list_pieces items)) (take l.items-index l.lists)
