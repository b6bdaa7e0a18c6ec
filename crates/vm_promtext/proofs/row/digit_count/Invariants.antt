use Rattle.std.proofs.Common.{◌≡◌, ◌+◌, ◌-◌, ◌≤◌, length, drop}
use Rattle.std.specs.Char.{is_ascii_digit}
use Rattle.std.specs.List.{prefix_len}
use Rattle.vm_promtext.proofs.row.digit_count.Given as goal

abbrev pub invariant-digits : goal.invariant-digits
invariant-digits l = record {
  within : l.count ≤ length l.text;
  value : prefix_len is_ascii_digit l.text ≡ l.count
      + prefix_len is_ascii_digit (drop l.count l.text);
}

abbrev pub decreases-digits : goal.decreases-digits
decreases-digits l = length l.text - l.count
