use Rattle.std.proofs.Common.{◌≡◌, ◌≤◌, length}
use Rattle.vm_jsonline.specs.Parts.{behind_spaces}
use Rattle.vm_jsonline.proofs.parts.behind_spaces.Given as goal

abbrev pub invariant-spaces : goal.invariant-spaces
invariant-spaces l = record {
  behind : behind_spaces l.rest ≡ behind_spaces l.text;
  shorter : length l.rest ≤ length l.text;
}

abbrev pub decreases-spaces : goal.decreases-spaces
decreases-spaces l = length l.rest
