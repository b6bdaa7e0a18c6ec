use Rattle.std.proofs.Common.{◌≡◌, ◌≤◌, ◌-◌, length, drop}
use Rattle.mql_lex.specs.Reading.{lexed, put_before}
use Rattle.mql_lex.proofs.lexer.cut.Given as goal

abbrev pub invariant-pieces : goal.invariant-pieces
invariant-pieces l = record {
  within : l.at ≤ length l.text;
  read : lexed 0 0 l.text ≡ put_before l.found (lexed 0 l.at (drop l.at l.text));
}

abbrev pub decreases-pieces : goal.decreases-pieces
decreases-pieces l = length l.text - l.at
