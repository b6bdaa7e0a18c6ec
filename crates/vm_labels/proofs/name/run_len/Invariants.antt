use Rattle.std.proofs.Common.{◌≡◌, ◌+◌, ◌-◌, ◌≤◌, length, drop}
use Rattle.std.specs.List.{prefix_len}
use Rattle.vm_labels.specs.Name.{is_name_byte}
use Rattle.vm_labels.proofs.name.run_len.Given as goal

abbrev pub invariant-name : goal.invariant-name
invariant-name l = record {
  within : l.end ≤ length l.text;
  name : prefix_len is_name_byte l.text ≡ l.end + prefix_len is_name_byte (drop l.end l.text);
}

abbrev pub decreases-name : goal.decreases-name
decreases-name l = length l.text - l.end
