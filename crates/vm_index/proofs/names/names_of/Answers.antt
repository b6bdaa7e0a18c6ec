use Rattle.vm_index.proofs.NameLaws.{names_more}
use Rattle.vm_index.proofs.names.names_of.Goals as goal

pub loop-posting-preserved : goal.loop-posting-preserved
loop-posting-preserved c =
    names_more c.args.postings.now c.loop-posting.posting-index c.posting-item.result
    c.loop-posting.names.items c.put_new.new.names.items
    c.loop-posting-test.true c.posting-item.is c.in_ok-put_new.ensures c.loop-posting.invariant
