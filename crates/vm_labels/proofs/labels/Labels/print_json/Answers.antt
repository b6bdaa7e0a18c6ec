use Rattle.std.proofs.Common.{ap, ◌∙◌}
use Rattle.vm_labels.proofs.TextLaws.{json_written}
use Rattle.vm_labels.proofs.labels.Labels.print_json.Goals as goal

pub returns-else-is_err-clause-ok : goal.returns-else-is_err-clause-ok
returns-else-is_err-clause-ok c =
    json_written c.args.out.now.items c.args.self.now c.as_slice.result.now
    c.into_inner.result.items _ c.new-writer.result.tokens _ _ c.put_object-written.ensures.ok
    c.new-writer.ensures.tokens c.as_slice.ensures.pairs
    (c.put_object-written.ensures.before ∙ c.new-writer.ensures.before
    ∙ ap (λ v. v.items) c.replace.ensures.value) c.into_inner.ensures.items
