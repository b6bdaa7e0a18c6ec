use Rattle.std.proofs.Common.{◌≡◌, ◌++◌, ◌∷◌, take, map}
use Rattle.std.specs.List.{join_with_byte}
use Rattle.vm_labels.specs.Text.{pair_text}
use Rattle.vm_labels.proofs.text.put_labels.Given as goal

abbrev pub invariant-loop-index : goal.invariant-loop-index
invariant-loop-index l = l.out.items ≡ l.fn.out.items
    ++ 123 ∷ join_with_byte 44 (map pair_text (take l.index l.pairs))
