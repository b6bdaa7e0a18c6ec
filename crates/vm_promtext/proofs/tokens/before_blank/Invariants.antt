use Rattle.std.proofs.Common.{◌≡◌, ◌+◌, ◌-◌, ◌≤◌, length, drop}
use Rattle.vm_promtext.specs.Reading.{before_blank}
use Rattle.vm_promtext.proofs.tokens.before_blank.Given as goal

abbrev pub invariant-value : goal.invariant-value
invariant-value l = record {
  within : l.len ≤ length l.text;
  value : before_blank l.text ≡ l.len + before_blank (drop l.len l.text);
}

abbrev pub decreases-value : goal.decreases-value
decreases-value l = length l.text - l.len
