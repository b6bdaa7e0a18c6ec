use Rattle.mql_expr.proofs.PartedLaws.{names_text, put_two}
use Rattle.mql_expr.proofs.print_parts.put_parted_names.Goals as goal

pub returns-in_ok-put_more_names : goal.returns-in_ok-put_more_names
returns-in_ok-put_more_names c =
    put_two c.args.out.now.items c.put_text.new.out.items c.put_more_names.new.out.items
    _ _ _ c.in_ok-put_text.ensures c.in_ok-put_more_names.ensures
    (names_text c.args.names.now c.first-item.result c.in-len1-up.len_at_least c.first-item.is)
