use Rattle.std.proofs.Common.{◌≡◌, ◌≤◌, ◌<◌, ◌^◌, take, length, ◌-◌}
use Rattle.std.specs.Str.Parse.{digits_value}
use Rattle.vm_decimal.specs.Spelled.{IsDigits}
use Rattle.vm_decimal.proofs.quick.leading_digits.Given as goal

abbrev pub invariant-front : goal.invariant-front
invariant-front l = record {
  within : l.count ≤ length l.text;
  digits : IsDigits (take l.count l.text);
  value : l.value ≡ digits_value 10 (take l.count l.text);
  small : l.value < 10 ^ l.count;
}

abbrev pub decreases-front : goal.decreases-front
decreases-front l = length l.text - l.count
