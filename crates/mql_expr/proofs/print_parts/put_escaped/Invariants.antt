use Rattle.std.proofs.Common.{◌≡◌, ◌++◌, take}
use Rattle.std.specs.Prelude.{flat_map}
use Rattle.vm_labels.specs.Text.{escaped_byte}
use Rattle.mql_expr.proofs.print_parts.put_escaped.Given as goal

abbrev pub invariant-loop-byte : goal.invariant-loop-byte
invariant-loop-byte l = l.out.items ≡ l.fn.out.items
    ++ flat_map escaped_byte (take l.byte-index l.text)
