use Rattle.std.proofs.Common.{◌≡◌, map, take}
use Rattle.vm_index.proofs.names.values_of.Given as goal

abbrev pub invariant-loop-posting : goal.invariant-loop-posting
invariant-loop-posting l = l.values.items ≡ map (λ q. q.pair.value) (take l.posting-index l.run)
