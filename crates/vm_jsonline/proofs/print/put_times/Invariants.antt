use Rattle.std.proofs.Common.{◌≡◌, ◌++◌, take, map}
use Rattle.std.specs.List.{join_with_byte}
use Rattle.vm_jsonline.specs.Print.{time_text}
use Rattle.vm_jsonline.proofs.print.put_times.Given as goal

abbrev pub invariant-loop-index : goal.invariant-loop-index
invariant-loop-index l = l.text.items ≡ l.fn.text.items
    ++ join_with_byte 44 (map time_text (take l.index l.samples))
