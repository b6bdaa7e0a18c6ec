use Rattle.std.proofs.Common.{◌≡◌, ◌++◌, take, flat_map}
use Rattle.vm_part.specs.Part.{entry_bytes}
use Rattle.vm_part.proofs.numbers.put_entries.Given as goal

abbrev pub invariant-loop-entry : goal.invariant-loop-entry
invariant-loop-entry l = l.out.items ≡ l.fn.out.items
    ++ flat_map entry_bytes (take l.entry-index l.entries)
