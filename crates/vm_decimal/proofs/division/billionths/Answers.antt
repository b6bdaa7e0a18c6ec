use Rattle.std.proofs.Common.{◌≡◌, ◌+◌, ◌*◌, ◌^◌, pos, negsuc, ◌*ℤ◌, ap, ap₂, ◌∙◌, arith}
use Rattle.vm_base.specs.Number.{signed}
use Rattle.vm_base.specs.Rounding.{nearest}
use Rattle.vm_decimal.specs.Arithmetic.{nearest_quotient}
use Rattle.vm_decimal.specs.Dec.{dec_of}
use Rattle.vm_decimal.specs.Parts.{value, whole}
use Rattle.vm_decimal.proofs.Divisions.{within, beyond, whole_is, quotient_is}
use Rattle.vm_decimal.proofs.division.billionths.Goals as goal

pub returns-in_default : goal.returns-in_default
returns-in_default c =
    let one = c.args.one in
    let two = c.args.two in
    let n = c.scaled.result in
    let d = c.scaled-2.result in
    beyond 9 one.negative one.size one.shift two.negative two.size two.shift c.requires.one
    c.requires.two n d
    c.scaled.ensures.size c.scaled.ensures.shift c.scaled-2.ensures.shift
    (dec_of (nearest_quotient (value one *ℤ pos (10 ^ 9)) (value two)) (negsuc 8))
    (omega (arith, c.in_default.ensures.wide))

pub returns : goal.returns
returns c =
    let one = c.args.one in
    let two = c.args.two in
    let n = c.scaled.result in
    let d = c.scaled-2.result in
    let aligned = c.in-Some.ensures.aligned in
    let whole_n : whole c.scaled.result ≡ c.args.one.size * 10 ^ (c.args.one.shift + 9) =
    whole_is n one.size (one.shift + 9) c.scaled.ensures.size
    (c.scaled.ensures.shift ∙ omega arith) in
    let whole_d : whole c.scaled-2.result ≡ c.args.two.size * 10 ^ c.args.two.shift =
    whole_is d two.size two.shift c.scaled-2.ensures.size
    (c.scaled-2.ensures.shift ∙ omega arith) in
    let found = c.quotient.ensures n d aligned ∙ ap₂ nearest whole_n whole_d in
    let signs =
    ap (λ s. dec_of (signed s c.quotient.result) (negsuc 8)) c.differ-negative.ensures in
    within 9 one.negative one.size one.shift two.negative two.size two.shift c.requires.one
    c.requires.two n d
    c.scaled.ensures.size c.scaled.ensures.shift c.scaled-2.ensures.shift c.in-Some.both aligned
    (c.placed.ensures ∙ signs
    ∙ ap (λ z. dec_of z (negsuc 8))
    (quotient_is one.negative one.size one.shift two.negative two.size
    two.shift c.quotient.result c.requires.one c.requires.two found))
