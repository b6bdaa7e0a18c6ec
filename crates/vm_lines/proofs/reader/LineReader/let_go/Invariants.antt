use Rattle.std.proofs.Common.{◌≡◌, ◌-◌, ◌^◌, ◌≤◌, false}
use Rattle.vm_lines.proofs.LongLines.{IsLong}
use Rattle.vm_lines.proofs.reader.LineReader.let_go.Given as goal

-- what was let go has no line feed
abbrev pub invariant-pieces : goal.invariant-pieces
invariant-pieces g l = record {
  before_end : l.self.ended ≡ false;
  gone : IsLong l.fn.self l.self (g.S.Source.left l.initial.input) (g.S.Source.left l.input);
  counted : g.S.Source.faults l.initial.input ≤ g.S.Source.faults l.input;
}

abbrev pub decreases-pieces : goal.decreases-pieces
decreases-pieces g l = 2 ^ 62 - l.self.taken
