use Rattle.std.proofs.Common.{◌++◌, ap, ◌∙◌}
use Rattle.mql_expr.specs.Canonical.{text_of, list_pieces}
use Rattle.mql_expr.proofs.PartedLaws.{braces_text, put_four}
use Rattle.mql_expr.proofs.print_parts.put_braces.Goals as goal

pub returns-in_ok-push-2 : goal.returns-in_ok-push-2
returns-in_ok-push-2 c =
    put_four c.args.out.now.items c.push.new.self.items c.put_list.new.out.items
    c.put_more_lists.new.out.items c.push-in-len1-up.new.self.items _ _ _ _ _
    c.in_ok-push.ensures.items
    (c.in_ok-put_list.ensures
    ∙ ap (λ t. c.push.new.self.items ++ text_of (list_pieces t)) c.as_slice.ensures)
    c.in_ok-put_more_lists.ensures c.in_ok-push-2.ensures.items
    (braces_text c.args.lists.now c.first-item.result c.in-len1-up.len_at_least c.first-item.is)
