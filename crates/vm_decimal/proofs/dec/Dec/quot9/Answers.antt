use Rattle.std.proofs.Common.{refl, ap, sym, ◌∙◌, arith}
use Rattle.std.specs.Result.{result_ok}
use Rattle.vm_decimal.specs.Parts.{value}
use Rattle.vm_decimal.proofs.ArithmeticLaws.{quotient9-IsQuotient9}
use Rattle.vm_decimal.proofs.Divisions.{quotient9-none, quotient9-some}
use Rattle.vm_decimal.proofs.dec.Dec.quot9.Goals as goal

pub returns-then-divisor-eq0-clause-value : goal.returns-then-divisor-eq0-clause-value
returns-then-divisor-eq0-clause-value c =
    let two = c.in_parts-divisor.result in
    quotient9-none c.args.self two.negative two.size two.shift c.args.other
    c.in_parts-divisor.ensures.value
    (omega arith)

pub returns-clause-value : goal.returns-clause-value
returns-clause-value c =
    let one = c.in_parts.result in
    let two = c.in_parts-divisor.result in
    c.some_or_range.ensures
    ∙ quotient9-some (value one) c.args.self two.negative two.size two.shift (value two)
    c.args.other
    c.in_parts.ensures.value refl c.in_parts-divisor.ensures.value (omega arith)
    c.billionths.ensures

pub returns-then-divisor-eq0-clause-nearest : goal.returns-then-divisor-eq0-clause-nearest
returns-then-divisor-eq0-clause-nearest c r is =
    quotient9-IsQuotient9 c.args.self c.args.other r
    (sym (returns-then-divisor-eq0-clause-value c) ∙ ap result_ok is)

pub returns-clause-nearest : goal.returns-clause-nearest
returns-clause-nearest c r is =
    quotient9-IsQuotient9 c.args.self c.args.other r
    (sym (returns-clause-value c) ∙ ap result_ok is)
