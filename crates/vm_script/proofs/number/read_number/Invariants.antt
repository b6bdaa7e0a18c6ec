use Rattle.std.proofs.Common.{◌≡◌, ◌<◌, ◌^◌, drop}
use Rattle.vm_script.proofs.NumberLaws.{number_after}
use Rattle.vm_script.proofs.number.read_number.Given as goal

abbrev pub invariant-loop-digit : goal.invariant-loop-digit
invariant-loop-digit l = record {
  read : number_after 0 l.digits ≡ number_after l.number (drop l.digit-index l.digits);
  small : l.number < 2 ^ 64;
}
