use Rattle.std.proofs.Common.{◌≡◌, take}
use Rattle.std.specs.List.{AllByRecursion}
use Rattle.vm_labels.specs.Bytes.{HasBytes}
use Rattle.vm_index.specs.Bytes.{table_bytes}
use Rattle.vm_index.proofs.bytes.table_of.Given as goal

abbrev pub invariant-loop-set : goal.invariant-loop-set
invariant-loop-set l = (l.table.items ≡ table_bytes (take l.set-index l.sets))
    × AllByRecursion HasBytes (take l.set-index l.sets)
