use Rattle.std.proofs.Common.{◌≡◌, ◌==◌, false, rules, arith, ap, sym, ◌∙◌, to_z, of_z}
use Rattle.std.proofs.lemmas.Int.{to_z-of_z}
use Rattle.std.proofs.lemmas.Bool.Decides.{nat_tests}
use Rattle.std.specs.Int.{w128}
use Rattle.vm_decimal.proofs.Orders.{alike, unlike}
use Rattle.vm_decimal.proofs.order.DecPartialEq.eq.Goals as goal

pub returns-then-self-other : goal.returns-then-self-other
returns-then-self-other c =
    let mine = c.self.inside.mantissa in
    let its = c.other.inside.mantissa in
    alike c.self.inside c.other.inside c.args.self.now c.args.other.now
    c.self.invariant c.other.invariant c.self.view_is c.other.view_is
    (sym (to_z-of_z w128 mine (search rules)) ∙ ap (to_z w128) c.if-self-other.true
    ∙ to_z-of_z w128 its (search rules))

pub returns-else-self-other : goal.returns-else-self-other
returns-else-self-other c =
    let mine = c.self.inside.mantissa in
    let its = c.other.inside.mantissa in
    let differ = c.if-self-other.false in
    let apart : (of_z w128 mine == of_z w128 its) ≡ false = grind (arith, nat_tests) in
    apart
    ∙ unlike c.self.inside c.other.inside c.args.self.now c.args.other.now
    c.self.invariant c.other.invariant c.self.view_is c.other.view_is
    (λ h _. c.if-self-other.false (ap (of_z w128) h))
