use Rattle.std.proofs.lemmas.Result.{err_from_is_err_and}
use Rattle.vm_index.specs.Bytes.{posting_fields, postings_fields}
use Rattle.vm_index.specs.Reading.{behind_all}
use Rattle.vm_index.proofs.ReadLaws.{fields_go_on, fields_end}
use Rattle.vm_index.proofs.read.behind_all.Goals as goal

pub returns-in_err-rest-2 : goal.returns-in_err-rest-2
returns-in_err-rest-2 c =
    let p = err_from_is_err_and c.from_residual-in_err-rest-2.result
    c.from_residual-in_err-rest-2.ensures.1 in
    rw (p.1, p.2)
    (fields_end posting_fields c.args.postings.now c.loop-posting.posting-index
    c.posting-item.result c.loop-posting.rest.now c.in_err-rest-2.field-0.0
    (behind_all (postings_fields c.args.postings.now) c.args.bytes.now) c.loop-posting-test.true
    c.posting-item.is c.in_err-rest-2.ensures c.loop-posting.invariant)

pub loop-posting-preserved : goal.loop-posting-preserved
loop-posting-preserved c =
    fields_go_on posting_fields c.args.postings.now c.loop-posting.posting-index
    c.posting-item.result c.loop-posting.rest.now c.in_ok-rest-2.rest.now
    (behind_all (postings_fields c.args.postings.now) c.args.bytes.now) c.loop-posting-test.true
    c.posting-item.is c.in_ok-rest-2.ensures c.loop-posting.invariant
