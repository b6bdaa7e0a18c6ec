use Rattle.std.proofs.Common.{◌++◌, length, ap, ◌∙◌}
use Rattle.std.specs.List.{concat}
use Rattle.std.specs.Int.{w64, to_be_bytes}
use Rattle.vm_index.specs.Bytes.{posting_fields}
use Rattle.vm_index.proofs.BytesLaws.{fields_more}
use Rattle.vm_index.proofs.bytes.bytes_of.Goals as goal

pub loop-posting-preserved : goal.loop-posting-preserved
loop-posting-preserved c =
    let q = c.posting-item.result in
    c.in_ok-put_posting.ensures
    ∙ ap (λ bs. bs ++ concat (posting_fields q)) c.loop-posting.invariant
    ∙ fields_more posting_fields (to_be_bytes w64 (length c.args.postings.now)) c.args.postings.now
    c.loop-posting.posting-index q c.loop-posting-test.true c.posting-item.is
