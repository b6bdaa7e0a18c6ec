use Rattle.mql_lex.proofs.Reaches.{piece_some}
use Rattle.mql_lex.proofs.piece.piece_at.Goals as goal

pub returns-then-may_end-clause-some : goal.returns-then-may_end-clause-some
returns-then-may_end-clause-some c =
    piece_some c.args.text.now c.reach-len.result c.piece_of.result c.in_ok-piece.piece
    c.reach-len.ensures.value c.piece_of.ensures c.in_ok-piece.was
