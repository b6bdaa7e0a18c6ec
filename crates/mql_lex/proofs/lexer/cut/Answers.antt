use Rattle.std.proofs.Common.{sym, arith, length-drop}
use Rattle.std.proofs.lemmas.List.{take_rest}
use Rattle.mql_lex.proofs.Outcomes.{next_piece}
use Rattle.mql_lex.proofs.lexer.cut.Goals as goal

pub pieces-preserved : goal.pieces-preserved
pieces-preserved c =
    let len = rw take_rest at c.in-Some.ensures.within in
    record {
      within = omega (arith, len, length-drop c.pieces.at c.args.text.now);
      read = next_piece c.args.text.now c.pieces.found c.push_piece.new.found c.pieces.at
          c.in-Some.piece c.in-Some.len
          c.pieces.invariant.read (sym c.in-Some.ensures.value) c.in_ok-push_piece.ensures;
    }
