use Rattle.mql_expr.specs.Canonical.{placed}
use Rattle.mql_expr.specs.Tree.{tree}
use Rattle.mql_expr.proofs.PartedLaws.{arguments_of, binding_of, bindings_of, inside_text, text_more}
use Rattle.mql_expr.proofs.query_text.+print.Goals as goal

pub put_args-loop-index-preserved : goal.put_args-loop-index-preserved
put_args-loop-index-preserved t c =
    text_more (λ e. placed 1 (tree e)) c.args.out.now.items c.loop-index.out.items
    c.put_comma_before.new.out.items c.put_placed.new.out.items
    c.args.args.now c.loop-index.index c.index-args-index.result c.loop-index-test.true
    c.index-args-index.is
    c.loop-index.invariant c.in_ok-put_comma_before.ensures c.in_ok-put_placed.ensures

pub put_args-returns : goal.put_args-returns
put_args-returns t c =
    inside_text (λ e. placed 1 (tree e)) c.args.out.now.items c.loop-index.out.items
    c.push-2.new.self.items
    c.args.args.now c.loop-index.index _ c.loop-index-test.false (arguments_of c.args.args.now)
    c.loop-index.invariant c.in_ok-push-2.ensures.items

pub put_templates-loop-index-preserved : goal.put_templates-loop-index-preserved
put_templates-loop-index-preserved t c =
    text_more binding_of c.args.out.now.items c.loop-index.out.items
    c.put_comma_before.new.out.items c.put_template.new.out.items
    c.args.templates.now c.loop-index.index c.index-templates-index.result c.loop-index-test.true
    c.index-templates-index.is
    c.loop-index.invariant c.in_ok-put_comma_before.ensures c.in_ok-put_template.ensures

pub put_templates-returns : goal.put_templates-returns
put_templates-returns t c =
    inside_text binding_of c.args.out.now.items c.loop-index.out.items c.push-2.new.self.items
    c.args.templates.now c.loop-index.index _ c.loop-index-test.false
    (bindings_of c.args.templates.now) c.loop-index.invariant c.in_ok-push-2.ensures.items
