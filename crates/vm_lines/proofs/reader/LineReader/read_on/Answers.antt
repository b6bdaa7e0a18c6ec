use Rattle.std.proofs.Common.{take, ◌++◌, [], ◌∷◌, subst, arith}
use Rattle.vm_lines.specs.Feeds.{IsFirstFeed}
use Rattle.vm_lines.proofs.Steps.{grows_more, moves_all, line_moves, line_reads, line_through, ended, end_through, nearer, spent}
use Rattle.vm_lines.proofs.reader.LineReader.read_on.Goals as goal

-- the input ended

pub returns-then-branch-eq0-clause-reads : goal.returns-then-branch-eq0-clause-reads
returns-then-branch-eq0-clause-reads g c =
    let took = c.in_ok-take_piece.ensures in
    ended c.last.result c.last.new.self c.pieces.invariant.grows c.pieces.invariant.clear took.took
    c.if-branch-eq0.true took.end took.below c.last.ensures.ahead c.last.ensures.taken
    c.last.ensures.line

pub returns-then-branch-eq0-clause-moves : goal.returns-then-branch-eq0-clause-moves
returns-then-branch-eq0-clause-moves g c = (
  c.take_piece.new.self.ahead,
  moves_all c.last.new.self (grows_more c.pieces.invariant.grows c.in_ok-take_piece.ensures.took)
      c.last.ensures.ahead c.last.ensures.taken,
  end_through c.last.result c.last.new.self.ended c.take_piece.new.self.ahead c.last.new.self.line
      c.last.ensures.line c.last.ensures.ended,
)

pub returns-then-branch-eq0-clause-goes_on : goal.returns-then-branch-eq0-clause-goes_on
returns-then-branch-eq0-clause-goes_on g c =
    let moves = returns-then-branch-eq0-clause-moves g c in
    nearer c.last.result c.last.new.self.ended c.ahead-searched.ensures.within
    (omega (arith, c.last.ensures.taken, c.in_ok-take_piece.ensures.within)) moves.1 moves.2

pub returns-then-branch-eq0-clause-end : goal.returns-then-branch-eq0-clause-end
returns-then-branch-eq0-clause-end g c = λ is.
    let took = c.in_ok-take_piece.ensures in
    let zero = c.if-branch-eq0.true in (
      spent took.took zero took.end,
      omega (arith, took.took.counted, zero, took.below, c.last.ensures.taken),
    )

-- the line ended in the piece

pub returns-in-Some-clause-reads : goal.returns-in-Some-clause-reads
returns-in-Some-clause-reads g c =
    let found =
    subst (λ bytes. IsFirstFeed bytes c.in-Some.at) c.ahead.ensures.value c.in-Some.ensures in
    let grows = grows_more c.pieces.invariant.grows c.in_ok-take_piece.ensures.took in
    line_reads c.give.result c.give.new.self grows found c.give.ensures.ahead c.give.ensures.taken
    c.give.ensures.line

pub returns-in-Some-clause-moves : goal.returns-in-Some-clause-moves
returns-in-Some-clause-moves g c =
    let found =
    subst (λ bytes. IsFirstFeed bytes c.in-Some.at) c.ahead.ensures.value c.in-Some.ensures in
    let grows = grows_more c.pieces.invariant.grows c.in_ok-take_piece.ensures.took in
    let piece = take c.in-Some.at c.take_piece.new.self.ahead in (
      piece ++ (10 ∷ []),
      line_moves c.give.new.self grows found c.give.ensures.ahead c.give.ensures.taken,
      line_through c.give.result c.give.new.self.ended piece c.give.new.self.line piece
          c.give.ensures.line,
    )

pub returns-in-Some-clause-goes_on : goal.returns-in-Some-clause-goes_on
returns-in-Some-clause-goes_on g c =
    let moves = returns-in-Some-clause-moves g c in
    nearer c.give.result c.give.new.self.ended c.ahead-searched.ensures.within
    (omega (arith, c.give.ensures.taken, c.ahead.ensures.limit)) moves.1 moves.2
