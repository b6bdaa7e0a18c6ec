use Rattle.std.proofs.Common.{refl, ap, sym, ◌∙◌, arith}
use Rattle.std.specs.Result.{result_ok}
use Rattle.vm_decimal.specs.Parts.{value}
use Rattle.vm_decimal.proofs.ArithmeticLaws.{remainder-IsRest}
use Rattle.vm_decimal.proofs.Divisions.{remainder-none, remainder-some}
use Rattle.vm_decimal.proofs.dec.Dec.rem.Goals as goal

pub returns-then-divisor-eq0-clause-value : goal.returns-then-divisor-eq0-clause-value
returns-then-divisor-eq0-clause-value c =
    let two = c.in_parts-divisor.result in
    remainder-none c.args.self two.negative two.size two.shift c.args.other
    c.in_parts-divisor.ensures.value
    (omega arith)

pub returns-clause-value : goal.returns-clause-value
returns-clause-value c =
    let one = c.in_parts.result in
    let two = c.in_parts-divisor.result in
    c.some_or_range.ensures
    ∙ remainder-some (value one) c.args.self two.negative two.size two.shift (value two)
    c.args.other
    c.in_parts.ensures.value refl c.in_parts-divisor.ensures.value (omega arith) c.rest.ensures

pub returns-then-divisor-eq0-clause-rest : goal.returns-then-divisor-eq0-clause-rest
returns-then-divisor-eq0-clause-rest c r is =
    remainder-IsRest c.args.self c.args.other r
    (sym (returns-then-divisor-eq0-clause-value c) ∙ ap result_ok is)

pub returns-clause-rest : goal.returns-clause-rest
returns-clause-rest c r is =
    remainder-IsRest c.args.self c.args.other r (sym (returns-clause-value c) ∙ ap result_ok is)
