use Rattle.std.proofs.Common.{◌≡◌, ◌++◌, length, take, flat_map}
use Rattle.std.specs.List.{concat}
use Rattle.std.specs.Int.{w64, to_be_bytes}
use Rattle.vm_index.specs.Bytes.{posting_fields}
use Rattle.vm_index.proofs.bytes.bytes_of.Given as goal

abbrev pub invariant-loop-posting : goal.invariant-loop-posting
invariant-loop-posting l = l.out.items ≡ to_be_bytes w64 (length l.postings)
    ++ concat (flat_map posting_fields (take l.posting-index l.postings))
