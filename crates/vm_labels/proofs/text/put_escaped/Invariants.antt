use Rattle.std.proofs.Common.{◌≡◌, ◌++◌, take, length}
use Rattle.std.specs.Prelude.{flat_map}
use Rattle.vm_labels.specs.Text.{escaped_byte}
use Rattle.vm_labels.proofs.text.put_escaped.Given as goal

abbrev pub invariant-runs : goal.invariant-runs
invariant-runs l = record {
  done : l.out.items ++ flat_map escaped_byte l.rest ≡ l.fn.out.items
      ++ flat_map escaped_byte l.value;
  kept : take (length l.fn.out.items) l.out.items ≡ l.fn.out.items;
}

abbrev pub decreases-runs : goal.decreases-runs
decreases-runs l = length l.rest
