use Rattle.std.proofs.Common.{sym}
use Rattle.vm_labels.specs.declared.pair.Pair.{Pair}
use Rattle.vm_index.proofs.LookupLaws.{found_at, found_nowhere}
use Rattle.vm_index.proofs.lookup.found.Goals as goal

pub returns-in-Ok : goal.returns-in-Ok
returns-in-Ok c =
    let p : Pair = record { name = c.args.name.now; value = c.args.value.now } in
    let is =
    found_at p c.args.postings.now c.in-Ok.at c.index-postings-at.result c.requires
    c.in-Ok.ensures.bound (c.in-Ok.ensures.place c.index-postings-at.result) in
    cc

pub returns-in-Err : goal.returns-in-Err
returns-in-Err c =
    sym (found_nowhere (record { name = c.args.name.now; value = c.args.value.now })
    c.args.postings.now c.in-Err.field-0 c.requires c.in-Err.ensures.place)
