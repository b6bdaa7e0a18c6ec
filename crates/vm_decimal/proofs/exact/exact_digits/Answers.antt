use Rattle.std.proofs.Common.{◌≡◌, take, get_or, refl, arith, sym, subst, ◌∙◌, take_all, Some}
use Rattle.vm_base.specs.Run.{run}
use Rattle.vm_decimal.specs.inner.Exact.{IsExact}
use Rattle.vm_decimal.specs.NumberMachine.{taken, step, start}
use Rattle.vm_decimal.proofs.Exacts.{fresh_exact, step_off, gathered}
use Rattle.vm_decimal.proofs.Readers.{step_on, came, stuck}
use Rattle.vm_decimal.proofs.exact.exact_digits.Goals as goal

pub loop-byte-init : goal.loop-byte-init
loop-byte-init c = record {
  gathers = record { state = start; there = refl; phase_is = refl; digits_are = fresh_exact };
  few = omega arith;
  short = omega arith;
}

pub returns-in_default-clause-value : goal.returns-in_default-clause-value
returns-in_default-clause-value c spelled reads =
    let now = c.loop-byte.invariant.gathers in
    let off = step_off now.state (get_or c.args.text.now c.loop-byte.byte-index 0) c.loop-byte.phase
    c.symbol_of-symbol.result now.phase_is c.symbol_of-symbol.ensures
    (sym c.next.ensures ∙ c.in_default.is) in
    let wrong =
    stuck c.args.text.now c.loop-byte.byte-index now.state c.loop-byte-test.true now.there
    off in
    absurd (cc (wrong, reads))

pub loop-byte-preserved : goal.loop-byte-preserved
loop-byte-preserved c =
    let now = c.loop-byte.invariant.gathers in
    let symbol = c.symbol_of-symbol.result in
    let on =
    step_on now.state (get_or c.args.text.now c.loop-byte.byte-index 0) c.loop-byte.phase
    c.in-Some.behind
    symbol now.phase_is c.symbol_of-symbol.ensures (sym c.next.ensures ∙ c.in-Some.is) in
    record {
      gathers = record {
        state = taken now.state c.in-Some.behind symbol;
        there = came c.args.text.now c.loop-byte.byte-index now.state c.loop-byte-test.true
            now.there
            (taken now.state c.in-Some.behind symbol) on;
        phase_is = c.with_symbol-digits.ensures.phase now.state;
        digits_are = c.with_symbol-digits.ensures.value now.state now.digits_are;
      };
      few = omega arith;
      short = omega arith;
    }

pub returns-clause-value : goal.returns-clause-value
returns-clause-value c spelled reads =
    let now = c.loop-byte.invariant.gathers in
    let all : take c.loop-byte.byte-index c.args.text.now ≡ c.args.text.now =
    take_all c.loop-byte.byte-index c.args.text.now (omega arith) in
    let there = subst (λ t. run step start t ≡ Some now.state) all now.there in
    subst (IsExact c.loop-byte.digits) (gathered c.args.text.now now.state spelled there reads)
    now.digits_are
