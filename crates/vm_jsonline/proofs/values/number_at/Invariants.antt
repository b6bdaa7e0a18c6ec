use Rattle.std.proofs.Common.{◌≡◌, ◌+◌, ◌-◌, ◌≤◌, length, drop}
use Rattle.std.specs.List.{prefix_len}
use Rattle.vm_jsonline.specs.Reading.{is_number_byte}
use Rattle.vm_jsonline.proofs.values.number_at.Given as goal

abbrev pub invariant-number : goal.invariant-number
invariant-number l = record {
  within : l.len ≤ length l.text;
  value : prefix_len is_number_byte l.text ≡ l.len + prefix_len is_number_byte (drop l.len l.text);
}

abbrev pub decreases-number : goal.decreases-number
decreases-number l = length l.text - l.len
