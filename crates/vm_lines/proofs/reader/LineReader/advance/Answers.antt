use Rattle.std.proofs.Common.{◌≡◌, true, take, ◌++◌, [], ◌∷◌, refl, sym, ap, ◌∙◌, subst, arith}
use Rattle.vm_lines.specs.Feeds.{HasNoFeed, IsFirstFeed}
use Rattle.vm_lines.specs.Reading.{Reading}
use Rattle.vm_lines.proofs.LineLaws.{clear_no_feed}
use Rattle.vm_lines.proofs.Steps.{grows_nothing, line_moves, line_reads, line_through, nearer}
use Rattle.vm_lines.proofs.reader.LineReader.advance.Goals as goal

-- the end was met before

pub returns-then-self-clause-reads : goal.returns-then-self-clause-reads
returns-then-self-clause-reads g c = λ knows.
    let none : c.args.self.now.ahead ≡ [] =
    ap (λ (reading : Reading). reading.ahead) (sym c.self.view_is)
    ∙ c.self.invariant.2 c.if-self.true in
    let met : c.args.self.now.ended ≡ true =
    ap (λ (reading : Reading). reading.ended) (sym c.self.view_is) ∙ c.if-self.true in
    let end = knows met in
    (none, none, refl, end.0, end.1)

pub returns-then-self-clause-moves : goal.returns-then-self-clause-moves
returns-then-self-clause-moves g c =
    ([], grows_nothing c.args.self.now (g.S.Source.left c.args.input.now), refl)

-- the line stood ahead

pub returns-in-Some-clause-reads : goal.returns-in-Some-clause-reads
returns-in-Some-clause-reads g c = λ knows.
    let found =
    subst (λ bytes. IsFirstFeed bytes c.in-Some.at) c.ahead.ensures.value c.in-Some.ensures in
    let grows = grows_nothing c.args.self.now (g.S.Source.left c.args.input.now) in
    line_reads c.give.result c.give.new.self grows found c.give.ensures.ahead c.give.ensures.taken
    c.give.ensures.line

pub returns-in-Some-clause-moves : goal.returns-in-Some-clause-moves
returns-in-Some-clause-moves g c =
    let found =
    subst (λ bytes. IsFirstFeed bytes c.in-Some.at) c.ahead.ensures.value c.in-Some.ensures in
    let grows = grows_nothing c.args.self.now (g.S.Source.left c.args.input.now) in
    let piece = take c.in-Some.at c.args.self.now.ahead in (
      piece ++ (10 ∷ []),
      line_moves c.give.new.self grows found c.give.ensures.ahead c.give.ensures.taken,
      line_through c.give.result c.give.new.self.ended piece c.give.new.self.line piece
          c.give.ensures.line,
    )

pub returns-in-Some-clause-goes_on : goal.returns-in-Some-clause-goes_on
returns-in-Some-clause-goes_on g c =
    let moves = returns-in-Some-clause-moves g c in
    nearer c.give.result c.give.new.self.ended c.ahead.ensures.within
    (omega (arith, c.give.ensures.taken, c.ahead.ensures.limit)) moves.1 moves.2

-- no whole line stood ahead
pub returns-in-None-clause-ready : goal.returns-in-None-clause-ready
returns-in-None-clause-ready g c = λ at found.
    let clear = subst HasNoFeed c.ahead.ensures.value c.in-None.ensures in
    absurd (clear_no_feed c.args.self.now.ahead at clear found)
