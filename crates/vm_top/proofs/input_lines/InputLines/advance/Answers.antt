use Rattle.std.proofs.Common.{arith, subst}
use Rattle.vm_top.specs.inner.Reading.{Place, StopsAt}
use Rattle.vm_top.proofs.ActLaws.{on_err}
use Rattle.vm_top.proofs.InputLaws.{to_go_moves}
use Rattle.vm_top.proofs.TakenLaws.{open_of, stops_of}
use Rattle.vm_top.proofs.input_lines.InputLines.advance.Goals as goal

pub invariant_of-self : goal.invariant_of-self
invariant_of-self g c =
    let moves = c.advance.ensures.moves in
    omega (
      arith,
      c.self.invariant,
      to_go_moves c.self.inside.reader c.advance.new.self _ _ moves.0 moves.1,
    )

-- no whole line came
pub returns-in_err-step-clause-stops : goal.returns-in_err-step-clause-stops
returns-in_err-step-clause-stops g c =
    let left = g.S.Source.left in
    let reader = c.self.inside.reader in
    let number = c.self.inside.number in
    let before : Place = record { reading = reader; number = number } in
    let after : Place = record { reading = c.advance.new.self; number = number } in
    let e = c.in_err-step.ensures in
    let stops : StopsAt before (left c.args.input.now) (left c.advance.new.input) =
    stops_of c.in_err-step.field-0.0 before after (left c.args.input.now) (left c.advance.new.input)
    e.moves.0 e.moves.1 e.moves.2
    e.needed (open_of reader.ended (λ is. let never = (e.once is).0 in absurd cc)) in
    on_err c.from_residual.result
    (subst (λ (p : Place). StopsAt p (left c.args.input.now) (left c.advance.new.input))
    c.self.view_is stops)
