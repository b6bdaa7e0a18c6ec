use Rattle.std.proofs.Common.{◌≡◌, true, drop}
use Rattle.std.specs.Char.{is_ascii_digit}
use Rattle.std.specs.List.{list_all}
use Rattle.vm_jsonline.proofs.Times.{time_after}
use Rattle.vm_jsonline.proofs.values.small_time.Given as goal

abbrev pub invariant-loop-digit : goal.invariant-loop-digit
invariant-loop-digit l = record {
  are : list_all is_ascii_digit (drop l.digit-index l.digits) ≡ true;
  read : time_after 0 l.digits ≡ time_after l.time (drop l.digit-index l.digits);
}
