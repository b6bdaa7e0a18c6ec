use Rattle.std.proofs.Common.{◌≡◌, ◌≤◌, length}
use Rattle.vm_promtext.specs.Reading.{behind_blanks}
use Rattle.vm_promtext.proofs.tokens.behind_blanks.Given as goal

abbrev pub invariant-blanks : goal.invariant-blanks
invariant-blanks l = record {
  behind : behind_blanks l.rest ≡ behind_blanks l.text;
  shorter : length l.rest ≤ length l.text;
}

abbrev pub decreases-blanks : goal.decreases-blanks
decreases-blanks l = length l.rest
