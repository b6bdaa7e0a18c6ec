use Rattle.std.proofs.Common.{◌≡◌, ◌-◌, ◌+◌, ap, ◌∙◌, arith, length}
use Rattle.std.proofs.lemmas.Result.{err_from_is_err_and}
use Rattle.vm_promtext.specs.Reading.{braces_reading}
use Rattle.vm_promtext.proofs.BraceLaws.{turn_last, turn_fails, turn_closed, turn_goes_on}
use Rattle.vm_promtext.proofs.labels.read_braces.Goals as goal

pub returns-in_err-turn : goal.returns-in_err-turn
returns-in_err-turn c =
    let p = err_from_is_err_and c.from_residual.result c.from_residual.ensures.1 in
    rw (p.1, p.2)
    (turn_fails c.in_err-turn.field-0.0 _ (length c.args.text.now - c.loop-pair._pair)
    c.loop-pair.pairs c.loop-pair.rest.now (omega arith) c.loop-pair.invariant
    c.in_err-turn.ensures)

pub returns-then-turn : goal.returns-then-turn
returns-then-turn c =
    c.loop-pair.invariant
    ∙ turn_closed _ c.loop-pair.pairs c.loop-pair.rest.now _ (omega arith) c.in_ok-turn.ensures
    c.if-turn.true

pub loop-pair-preserved : goal.loop-pair-preserved
loop-pair-preserved c =
    let fuel = length c.args.text.now - c.loop-pair._pair in
    let next : fuel - 1 ≡ length c.args.text.now - (c.loop-pair._pair + 1) = omega arith in
    c.loop-pair.invariant
    ∙ turn_goes_on fuel c.loop-pair.pairs c.loop-pair.rest.now _ (omega arith) c.in_ok-turn.ensures
    c.if-turn.false
    ∙ ap (λ n. braces_reading n c.next_pair.new.pairs c.in_ok-turn.turn.rest.now) next

pub returns : goal.returns
returns c =
    c.loop-pair.invariant
    ∙ turn_last (length c.args.text.now - c.loop-pair._pair) c.loop-pair.pairs
    c.loop-pair.rest.now (omega arith)
