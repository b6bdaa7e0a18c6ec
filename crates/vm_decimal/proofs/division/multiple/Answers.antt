use Rattle.std.proofs.Common.{◌≡◌, ◌*◌, ◌^◌, ◌*ℤ◌, ap, ap₂, ◌∙◌, arith}
use Rattle.vm_base.specs.Rounding.{nearest}
use Rattle.vm_decimal.specs.Arithmetic.{nearest_quotient}
use Rattle.vm_decimal.specs.Dec.{in_range}
use Rattle.vm_decimal.specs.Parts.{value, whole}
use Rattle.vm_decimal.proofs.Divisions.{within, beyond, whole_is, multiple_is}
use Rattle.vm_decimal.proofs.division.multiple.Goals as goal

pub returns-in_default : goal.returns-in_default
returns-in_default c =
    let one = c.args.one in
    let two = c.args.two in
    let n = c.scaled.result in
    let d = c.scaled-2.result in
    beyond 0 one.negative one.size one.shift two.negative two.size two.shift c.requires.one
    c.requires.two n d
    c.scaled.ensures.size c.scaled.ensures.shift c.scaled-2.ensures.shift
    (in_range (nearest_quotient (value one) (value two) *ℤ value two))
    (omega (arith, c.in_default.ensures.wide))

pub returns : goal.returns
returns c =
    let one = c.args.one in
    let two = c.args.two in
    let n = c.scaled.result in
    let d = c.scaled-2.result in
    let aligned = c.in-Some.ensures.aligned in
    let whole_n : whole c.scaled.result ≡ c.args.one.size * 10 ^ c.args.one.shift =
    whole_is n one.size (one.shift) c.scaled.ensures.size (c.scaled.ensures.shift ∙ omega arith) in
    let whole_d : whole c.scaled-2.result ≡ c.args.two.size * 10 ^ c.args.two.shift =
    whole_is d two.size two.shift c.scaled-2.ensures.size
    (c.scaled-2.ensures.shift ∙ omega arith) in
    let found = c.nearest_multiple_of.ensures n d aligned
    ∙ ap₂ (λ m k. nearest m k * k) whole_n whole_d in
    within 0 one.negative one.size one.shift two.negative two.size two.shift c.requires.one
    c.requires.two n d
    c.scaled.ensures.size c.scaled.ensures.shift c.scaled-2.ensures.shift c.in-Some.both aligned
    (c.placed_up.ensures
    ∙ ap in_range (multiple_is one.negative one.size one.shift two.negative two.size two.shift
    c.nearest_multiple_of.result c.in-Some.both.shift c.requires.one c.requires.two found))
