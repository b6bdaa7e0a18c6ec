-- Zeros after the mantissa, as many as the exponent is above that of the block.
use Rattle.std.proofs.Common.{◌≡◌, ◌+◌, ◌-◌, ◌*◌, ◌^◌, ◌<◌, ℤ, unsigned_abs, ap, sym, subst, ◌∙◌, w64, arith, rules}
use Rattle.std.proofs.lemmas.Int.{to_z-of_z}
use Rattle.std.specs.Int.{is_negative}
use Rattle.vm_base.specs.Number.{form_of, signed}
use Rattle.vm_block.specs.inner.Reading.{raised_by}
use Rattle.vm_block.proofs.Mantissas.{some_abs, shift_below, raised_few, raised_value}
use Rattle.vm_block.proofs.encode.mantissa.Goals as goal

pub overflow_sub-shift_of : goal.overflow_sub-shift_of
overflow_sub-shift_of c =
    let below =
    shift_below c.args.value c.m-m.result c.args.shift c.m-m.ensures.value
    (some_abs c.m-m.result c.if-m-eq0.false) c.requires.least in
    omega (arith, below, c.shift_of.ensures.value)

pub raise-requires-clause-few : goal.raise-requires-clause-few
raise-requires-clause-few c =
    let z = c.args.value in
    let m = c.m-m.result in
    let gap = c.shift_of.result - c.args.shift in
    let below =
    shift_below z m c.args.shift c.m-m.ensures.value (some_abs m c.if-m-eq0.false)
    c.requires.least in
    let at : gap + c.args.shift ≡ (form_of z).shift =
    omega (arith, below, c.shift_of.ensures.value) in
    let abs : c.unsigned_abs.result ≡ unsigned_abs m = c.unsigned_abs.ensures.value
    ∙ ap unsigned_abs (to_z-of_z w64 m (search rules)) in
    subst (λ n. n * 10 ^ gap < 10 ^ 18) (sym abs)
    (raised_few z m c.args.shift gap c.m-m.ensures.value at c.requires.digits)

pub with_sign-requires : goal.with_sign-requires
with_sign-requires c =
    let z = c.args.value in
    let m = c.m-m.result in
    let gap = c.shift_of.result - c.args.shift in
    let below =
    shift_below z m c.args.shift c.m-m.ensures.value (some_abs m c.if-m-eq0.false)
    c.requires.least in
    let at : gap + c.args.shift ≡ (form_of z).shift =
    omega (arith, below, c.shift_of.ensures.value) in
    let abs : c.unsigned_abs.result ≡ unsigned_abs m = c.unsigned_abs.ensures.value
    ∙ ap unsigned_abs (to_z-of_z w64 m (search rules)) in
    let raised : c.raise.result ≡ unsigned_abs m * 10 ^ gap = c.raise.ensures
    ∙ ap (λ n. n * 10 ^ gap) abs in
    subst (λ n. n < 10 ^ 18) (sym raised)
    (raised_few z m c.args.shift gap c.m-m.ensures.value at c.requires.digits)

pub returns-clause-value : goal.returns-clause-value
returns-clause-value c =
    let z = c.args.value in
    let m = c.m-m.result in
    let gap = c.shift_of.result - c.args.shift in
    let below =
    shift_below z m c.args.shift c.m-m.ensures.value (some_abs m c.if-m-eq0.false)
    c.requires.least in
    let at : gap + c.args.shift ≡ (form_of z).shift =
    omega (arith, below, c.shift_of.ensures.value) in
    let abs : c.unsigned_abs.result ≡ unsigned_abs m = c.unsigned_abs.ensures.value
    ∙ ap unsigned_abs (to_z-of_z w64 m (search rules)) in
    let raised : c.raise.result ≡ unsigned_abs m * 10 ^ gap = c.raise.ensures
    ∙ ap (λ n. n * 10 ^ gap) abs in
    raised_value z m c.args.shift gap c.raise.result c.m-m.ensures.sample c.m-m.ensures.value at
    raised
    ∙ ap (λ (x : ℤ). raised_by c.args.shift (signed (is_negative x) c.raise.result))
    (sym (to_z-of_z w64 m (search rules)))
    ∙ ap (raised_by c.args.shift)
    (sym (to_z-of_z w64 c.with_sign.result (search rules) ∙ c.with_sign.ensures.value))
