use Rattle.std.proofs.Common.{◌≡◌, drop, flat_map}
use Rattle.vm_index.specs.Bytes.{posting_fields, postings_fields}
use Rattle.vm_index.specs.Reading.{behind_all}
use Rattle.vm_index.proofs.read.behind_all.Given as goal

abbrev pub invariant-loop-posting : goal.invariant-loop-posting
invariant-loop-posting l =
    behind_all (flat_map posting_fields (drop l.posting-index l.postings)) l.rest
    ≡ behind_all (postings_fields l.postings) l.bytes
