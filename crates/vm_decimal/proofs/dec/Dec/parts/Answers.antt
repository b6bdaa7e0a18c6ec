use Rattle.std.proofs.Common.{rules, Some, pos, ◌-ℤ◌, unsigned_abs, ap, ap₂, sym, ◌∙◌, arith, w16}
use Rattle.std.proofs.lemmas.Int.{ints, to_z-of_z}
use Rattle.std.specs.Int.{is_negative, w128}
use Rattle.vm_base.proofs.NumberLaws.{signed-parts}
use Rattle.vm_decimal.specs.Dec.{dec_of, is_dec}
use Rattle.vm_decimal.proofs.DecForms.{mantissa_is, exponent_is, dec_of-form, is_dec-form}
use Rattle.vm_decimal.proofs.dec.Dec.parts.Goals as goal

pub returns-clause-mantissa : goal.returns-clause-mantissa
returns-clause-mantissa c =
    to_z-of_z w128 c.self.inside.mantissa (search rules)
    ∙ mantissa_is c.self.inside c.args.self c.self.invariant c.self.view_is

pub returns-clause-exponent : goal.returns-clause-exponent
returns-clause-exponent c =
    to_z-of_z w16 c.exponent_of.result (search rules) ∙ c.exponent_of.ensures
    ∙ exponent_is c.self.inside c.args.self c.self.invariant c.self.view_is

pub returns-clause-whole : goal.returns-clause-whole
returns-clause-whole c =
    let s = c.self.inside in
    let m = to_z-of_z w128 s.mantissa (search rules) ∙ sym (signed-parts s.mantissa) in
    let e = to_z-of_z w16 c.exponent_of.result (search rules) ∙ c.exponent_of.ensures in
    ap₂ dec_of m e
    ∙ dec_of-form (is_negative s.mantissa) (unsigned_abs s.mantissa) s.shift
    (pos s.shift -ℤ pos 1000)
    c.self.invariant (omega (arith, ints))
    ∙ ap Some c.self.view_is

pub returns-clause-dec : goal.returns-clause-dec
returns-clause-dec c =
    let s = c.self.inside in
    ap is_dec (sym c.self.view_is)
    ∙ is_dec-form (is_negative s.mantissa) (unsigned_abs s.mantissa) s.shift c.self.invariant
