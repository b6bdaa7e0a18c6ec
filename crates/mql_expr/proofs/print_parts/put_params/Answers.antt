use Rattle.mql_expr.proofs.PartedLaws.{params_text, put_four}
use Rattle.mql_expr.proofs.print_parts.put_params.Goals as goal

pub returns-in_ok-push-2 : goal.returns-in_ok-push-2
returns-in_ok-push-2 c =
    put_four c.args.out.now.items c.push.new.self.items c.put_text.new.out.items
    c.put_more_params.new.out.items c.push-in-len1-up.new.self.items _ _ _ _ _
    c.in_ok-push.ensures.items c.in_ok-put_text.ensures c.in_ok-put_more_params.ensures
    c.in_ok-push-2.ensures.items
    (params_text c.args.params.now c.first-item.result c.in-len1-up.len_at_least c.first-item.is)
