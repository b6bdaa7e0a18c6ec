use Rattle.std.proofs.Common.{take, ◌++◌, [], ◌∷◌, refl, arith, length-append, ◌∙◌, inl, inr}
use Rattle.vm_lines.specs.declared.step.Step.TheVariants.{TooLong}
use Rattle.vm_lines.proofs.LongLines.{long_more, long_feed, long_feed_moves, long_end, long_end_moves}
use Rattle.vm_lines.proofs.Steps.{nearer, spent, still}
use Rattle.vm_lines.proofs.reader.LineReader.let_go.Goals as goal

-- the input ended

pub end-requires : goal.end-requires
end-requires g c =
    still c.in_ok-take_piece.ensures.took c.if-branch-eq0.true ∙ c.pieces.invariant.gone.none

pub returns-then-branch-eq0-clause-reads : goal.returns-then-branch-eq0-clause-reads
returns-then-branch-eq0-clause-reads g c =
    let took = c.in_ok-take_piece.ensures in
    long_end c.end.new.self c.pieces.invariant.gone took.took c.if-branch-eq0.true
    c.end.ensures.ahead c.end.ensures.taken took.end

pub returns-then-branch-eq0-clause-moves : goal.returns-then-branch-eq0-clause-moves
returns-then-branch-eq0-clause-moves g c = (
  c.pieces.invariant.gone.gone,
  long_end_moves c.end.new.self c.pieces.invariant.gone c.in_ok-take_piece.ensures.took
      c.if-branch-eq0.true
      c.end.ensures.ahead c.end.ensures.taken,
  (omega (arith, c.pieces.invariant.gone.long), inr c.end.ensures.ended),
)

pub returns-then-branch-eq0-clause-goes_on : goal.returns-then-branch-eq0-clause-goes_on
returns-then-branch-eq0-clause-goes_on g c =
    let moves = returns-then-branch-eq0-clause-moves g c in
    nearer TooLong c.end.new.self.ended c.skip_all.ensures.within
    (omega (arith, c.end.ensures.taken, c.in_ok-take_piece.ensures.within)) moves.1 moves.2

pub returns-then-branch-eq0-clause-end : goal.returns-then-branch-eq0-clause-end
returns-then-branch-eq0-clause-end g c = λ is.
    let took = c.in_ok-take_piece.ensures in
    let zero = c.if-branch-eq0.true in (
      spent took.took zero took.end,
      omega (arith, took.took.counted, zero, took.below, c.end.ensures.taken),
    )

-- the line ended

pub returns-then-skip_line-clause-reads : goal.returns-then-skip_line-clause-reads
returns-then-skip_line-clause-reads g c =
    let found = c.if-skip_line.ensures.found in
    long_feed c.skip_line.new.self c.pieces.invariant.gone c.in_ok-take_piece.ensures.took found.1
    found.2
    c.skip_line.ensures.taken

pub returns-then-skip_line-clause-moves : goal.returns-then-skip_line-clause-moves
returns-then-skip_line-clause-moves g c =
    let found = c.if-skip_line.ensures.found in
    let line = c.pieces.invariant.gone.gone ++ take found.0 c.take_piece.new.self.ahead in (
      line ++ (10 ∷ []),
      long_feed_moves c.skip_line.new.self c.pieces.invariant.gone c.in_ok-take_piece.ensures.took
          found.1 found.2 c.skip_line.ensures.taken,
      (omega (arith, length-append line (10 ∷ [])), inl (line, refl)),
    )

-- the line goes on
pub pieces-preserved : goal.pieces-preserved
pieces-preserved g c =
    let missing = c.if-skip_line.ensures.missing in
    record {
      before_end = c.skip_line.ensures.before_end;
      gone = long_more c.skip_line.new.self c.pieces.invariant.gone c.in_ok-take_piece.ensures.took
          missing.0 missing.1 c.skip_line.ensures.taken;
      counted = omega (arith, c.pieces.invariant.counted, c.take_piece.ensures.counted);
    }
