use Rattle.std.proofs.Common.{◌≡◌, ◌++◌, ◌∷◌, take}
use Rattle.std.specs.Prelude.{flat_map}
use Rattle.mql_expr.specs.Canonical.{text_of, item_pieces}
use Rattle.mql_expr.proofs.print_parts.put_more_items.Given as goal

abbrev pub invariant-loop-item : goal.invariant-loop-item
invariant-loop-item l = l.out.items ≡ l.fn.out.items
    ++ flat_map (λ item. 44 ∷ text_of (item_pieces item)) (take l.item-index l.items)
