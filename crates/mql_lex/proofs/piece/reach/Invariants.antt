use Rattle.std.proofs.Common.{◌≡◌, ◌+◌, drop}
use Rattle.mql_lex.specs.Reading.{reach}
use Rattle.mql_lex.specs.declared.phase.Phase.TheVariants.{Start}
use Rattle.mql_lex.proofs.piece.reach.Given as goal

abbrev pub invariant-loop-at : goal.invariant-loop-at
invariant-loop-at l = record {
  len : (reach Start l.text).0 ≡ l.at + (reach l.phase (drop l.at l.text)).0;
  phase : (reach Start l.text).1 ≡ (reach l.phase (drop l.at l.text)).1;
}
