use Rattle.mql_expr.proofs.PartedLaws.{parted_text, put_two}
use Rattle.mql_expr.proofs.print_parts.put_list.Goals as goal
use Rattle.mql_expr.specs.Canonical.{item_pieces, mark}
use Rattle.std.proofs.Common.{[], ◌∷◌, codes}

pub returns-in_ok-put_more_items : goal.returns-in_ok-put_more_items
returns-in_ok-put_more_items c =
    put_two c.args.out.now.items c.put_item.new.out.items c.put_more_items.new.out.items
    _ _ _ c.in_ok-put_item.ensures c.in_ok-put_more_items.ensures
    (parted_text (mark (codes ",") ∷ []) item_pieces c.args.items.now c.first-item.result
    c.in-len1-up.len_at_least c.first-item.is)
