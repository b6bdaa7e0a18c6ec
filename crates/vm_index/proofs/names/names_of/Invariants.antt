use Rattle.std.proofs.Common.{◌≡◌, map, take}
use Rattle.std.specs.Prelude.{bytes_eq}
use Rattle.std.specs.List.{dedup}
use Rattle.vm_index.proofs.names.names_of.Given as goal

abbrev pub invariant-loop-posting : goal.invariant-loop-posting
invariant-loop-posting l =
    l.names.items ≡ dedup bytes_eq (map (λ q. q.pair.name) (take l.posting-index l.postings))
