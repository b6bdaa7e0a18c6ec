use Rattle.std.proofs.Common.{rules, ◌≡◌, ◌-◌, ◌*◌, ◌^◌, ap, ◌∙◌, arith, w32}
use Rattle.std.proofs.lemmas.Int.{to_z-of_z}
use Rattle.vm_decimal.specs.Dec.{in_range}
use Rattle.vm_decimal.specs.Parts.{value}
use Rattle.vm_decimal.proofs.Sums.{with_none, far_sum, uneven, last_kept, ends_with_nought}
use Rattle.vm_decimal.proofs.sum.uneven_sum.Goals as goal

pub returns-then-low-eq0 : goal.returns-then-low-eq0
returns-then-low-eq0 c =
    let low = c.args.low in
    c.placed_up.ensures
    ∙ ap in_range (with_none (value c.args.high) low.negative low.size low.shift (omega arith))

pub returns-in_default : goal.returns-in_default
returns-in_default c =
    let high = c.args.high in
    let low = c.args.low in
    far_sum high.negative high.size high.shift low.negative low.size low.shift c.requires.above
    (omega (arith, c.in_default.ensures.wide)) c.requires.low.few
    (λ end. c.if-low-eq0.false (c.requires.low.short end))

pub returns-then-size-ge-FAR : goal.returns-then-size-ge-FAR
returns-then-size-ge-FAR c =
    let high = c.args.high in
    let low = c.args.low in
    let is : c.in-Some.size ≡ high.size * 10 ^ (high.shift - low.shift) =
    omega (arith, c.in-Some.ensures) in
    far_sum high.negative high.size high.shift low.negative low.size low.shift c.requires.above
    (omega arith) c.requires.low.few (λ end. c.if-low-eq0.false (c.requires.low.short end))

pub in_form-requires : goal.in_form-requires
in_form-requires c =
    let high = c.args.high in
    let low = c.args.low in
    let is : c.in-Some.size ≡ high.size * 10 ^ (high.shift - low.shift) =
    omega (arith, c.in-Some.ensures) in
    let sum = c.signed_sum-negative in
    last_kept sum.result.0 sum.result.1 high.negative c.in-Some.size low.negative low.size
    sum.ensures
    (ends_with_nought high.size high.shift low.shift c.in-Some.size c.requires.above is)
    (λ end. c.if-low-eq0.false (c.requires.low.short end))

pub returns : goal.returns
returns c =
    let high = c.args.high in
    let low = c.args.low in
    let is : c.in-Some.size ≡ high.size * 10 ^ (high.shift - low.shift) =
    omega (arith, c.in-Some.ensures) in
    let sum = c.signed_sum-negative in
    let same = to_z-of_z w32 c.from.result (search rules) ∙ c.from.ensures in
    rw same at c.in_form.ensures
    ∙ uneven sum.result.0 sum.result.1 high.negative high.size high.shift c.in-Some.size
    low.negative low.size
    low.shift c.requires.above is sum.ensures (λ end. c.if-low-eq0.false (c.requires.low.short end))
