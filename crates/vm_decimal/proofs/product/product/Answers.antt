use Rattle.std.proofs.Common.{rules, ◌≡◌, ◌+◌, ◌*◌, ◌%◌, ap, sym, ◌∙◌, arith, w32}
use Rattle.std.proofs.lemmas.Int.{ints, to_z-of_z}
use Rattle.vm_decimal.specs.Arithmetic.{differ}
use Rattle.vm_decimal.specs.Parts.{placed, value}
use Rattle.vm_decimal.proofs.Products.{Parted, all_tens, no_ten, product_placed, product_wide, product_none, product_none_too}
use Rattle.vm_decimal.proofs.product.product.Goals as goal

pub returns-then-one-eq0 : goal.returns-then-one-eq0
returns-then-one-eq0 c =
    let one = c.args.one in
    product_none one.negative one.size one.shift (value c.args.two) (omega arith)

pub returns-then-two-eq0 : goal.returns-then-two-eq0
returns-then-two-eq0 c =
    let two = c.args.two in
    product_none_too two.negative two.size two.shift (value c.args.one) (omega arith)

pub returns-in_default : goal.returns-in_default
returns-in_default c =
    let one = c.args.one in
    let two = c.args.two in
    let f = c.cancelled-first in
    let t = c.cancelled-then in
    let first : Parted one.size two.size f.result.twos f.result.fives f.result.tens =
    record { first = f.ensures.twos; second = f.ensures.fives; done = f.ensures.done } in
    let then : Parted f.result.fives f.result.twos t.result.twos t.result.fives t.result.tens =
    record { first = t.ensures.twos; second = t.ensures.fives; done = t.ensures.done } in
    product_wide one.negative one.size one.shift two.negative two.size two.shift
    (t.result.twos * t.result.fives) (t.result.tens + f.result.tens)
    (omega (arith, c.in_default.ensures))
    (all_tens one.size two.size f.result.twos f.result.fives f.result.tens t.result.fives
    t.result.twos
    t.result.tens first then)
    (no_ten one.size two.size f.result.twos f.result.fives f.result.tens t.result.fives
    t.result.twos
    t.result.tens first then (λ end. c.if-one-eq0.false (c.requires.one.short end))
    (λ end. c.if-two-eq0.false (c.requires.two.short end)))

pub in_form-requires : goal.in_form-requires
in_form-requires c =
    let one = c.args.one in
    let two = c.args.two in
    let f = c.cancelled-first in
    let t = c.cancelled-then in
    let first : Parted one.size two.size f.result.twos f.result.fives f.result.tens =
    record { first = f.ensures.twos; second = f.ensures.fives; done = f.ensures.done } in
    let then : Parted f.result.fives f.result.twos t.result.twos t.result.fives t.result.tens =
    record { first = t.ensures.twos; second = t.ensures.fives; done = t.ensures.done } in
    let is : c.in-Some.size ≡ t.result.twos * t.result.fives = omega (arith, c.in-Some.ensures) in
    λ end.
    no_ten one.size two.size f.result.twos f.result.fives f.result.tens t.result.fives t.result.twos
    t.result.tens first then (λ end. c.if-one-eq0.false (c.requires.one.short end))
    (λ end. c.if-two-eq0.false (c.requires.two.short end)) (ap (λ n. n % 10) (sym is) ∙ end)

pub returns : goal.returns
returns c =
    let one = c.args.one in
    let two = c.args.two in
    let f = c.cancelled-first in
    let t = c.cancelled-then in
    let first : Parted one.size two.size f.result.twos f.result.fives f.result.tens =
    record { first = f.ensures.twos; second = f.ensures.fives; done = f.ensures.done } in
    let then : Parted f.result.fives f.result.twos t.result.twos t.result.fives t.result.tens =
    record { first = t.ensures.twos; second = t.ensures.fives; done = t.ensures.done } in
    let is : c.in-Some.size ≡ t.result.twos * t.result.fives = omega (arith, c.in-Some.ensures) in
    let shift = c.product_shift-shift.result in
    let same = to_z-of_z w32 shift (search rules) in
    let found =
    rw same at c.in_form.ensures
    ∙ ap (λ minus. placed minus c.in-Some.size shift) c.differ.ensures
    ∙ ap (λ n. placed (differ one.negative two.negative) n shift) is in
    product_placed one.negative one.size one.shift two.negative two.size two.shift
    (t.result.twos * t.result.fives) (t.result.tens + f.result.tens) {shift = shift} found
    (all_tens one.size two.size f.result.twos f.result.fives f.result.tens t.result.fives
    t.result.twos
    t.result.tens first then)
    (no_ten one.size two.size f.result.twos f.result.fives f.result.tens t.result.fives
    t.result.twos
    t.result.tens first then (λ end. c.if-one-eq0.false (c.requires.one.short end))
    (λ end. c.if-two-eq0.false (c.requires.two.short end)))
    (omega (arith, ints))
