use Rattle.std.proofs.Common.{◌≡◌, take, refl, arith, sym, ap, subst, ◌∙◌, take_all, Some, false}
use Rattle.vm_base.specs.Run.{run}
use Rattle.vm_decimal.specs.NumberMachine.{may_end, step, start}
use Rattle.vm_decimal.proofs.Readers.{fresh_stands, came, stuck, reading_short}
use Rattle.vm_decimal.proofs.reader.scan.Goals as goal

pub loop-at-init : goal.loop-at-init
loop-at-init c = record {
  comes = record { state = start; there = refl; stands = fresh_stands };
  counts = record { places = omega arith; dropped = omega arith };
}

pub returns-then-not-step-clause-wrong : goal.returns-then-not-step-clause-wrong
returns-then-not-step-clause-wrong c =
    let now = c.loop-at.invariant.comes in
    stuck c.args.text.now c.loop-at.at now.state c.loop-at-test.true now.there
    (c.if-not-step.ensures.steps now.state now.stands)

pub loop-at-preserved : goal.loop-at-preserved
loop-at-preserved c =
    let now = c.loop-at.invariant.comes in
    let next = c.if-not-step.ensures.steps now.state now.stands in
    record {
      comes = record {
        state = next.0;
        there = came c.args.text.now c.loop-at.at now.state c.loop-at-test.true now.there next.0
            next.1;
        stands = next.2;
      };
      counts = c.if-not-step.ensures.counts c.loop-at.at c.loop-at.invariant.counts;
    }

pub returns-clause-wrong : goal.returns-clause-wrong
returns-clause-wrong c =
    let now = c.loop-at.invariant.comes in
    let all : take c.loop-at.at c.args.text.now ≡ c.args.text.now =
    take_all c.loop-at.at c.args.text.now (omega arith) in
    let done : may_end now.state.phase ≡ false =
    ap may_end (sym now.stands.phase) ∙ sym c.may_end.ensures ∙ c.if-may_end.false in
    reading_short c.args.text.now now.state
    (subst (λ t. run step start t ≡ Some now.state) all now.there) done
