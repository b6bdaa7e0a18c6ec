use Rattle.std.proofs.Common.{◌≡◌, false, ◌-◌, ◌^◌, ◌≤◌, length}
use Rattle.vm_lines.specs.Feeds.{HasNoFeed}
use Rattle.vm_lines.proofs.Steps.{Grows}
use Rattle.vm_lines.proofs.reader.LineReader.read_on.Given as goal

-- no line feed stands ahead, and all that came stands there
abbrev pub invariant-pieces : goal.invariant-pieces
invariant-pieces g l = record {
  before_end : l.self.ended ≡ false;
  grows : Grows l.initial.self l.self (g.S.Source.left l.initial.input) (g.S.Source.left l.input);
  clear : HasNoFeed l.self.ahead;
  searched : l.searched ≡ length l.self.ahead;
  counted : g.S.Source.faults l.initial.input ≤ g.S.Source.faults l.input;
}

abbrev pub decreases-pieces : goal.decreases-pieces
decreases-pieces g l = 2 ^ 62 - l.self.taken
