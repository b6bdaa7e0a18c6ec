use Rattle.std.proofs.Common.{◌≡◌, ◌+◌, ◌*◌, ◌^◌, pos, ◌+ℤ◌, unsigned_abs, sym, ap, ◌∙◌, arith, rules, w32, w64, FitsSigned, to_z, of_z}
use Rattle.std.proofs.lemmas.Int.{ints, to_z-of_z}
use Rattle.vm_base.specs.Sample.{sample_of}
use Rattle.vm_base.proofs.SampleLaws.{sample_of-zero, sample_of-stripped}
use Rattle.vm_base.proofs.sample.Sample.of.Goals as goal

pub returns-then-m-eq0 : goal.returns-then-m-eq0
returns-then-m-eq0 c =
    let zero : c.args.m ≡ pos 0 = omega (arith, ints) in
    sym (ap (λ m. sample_of m c.args.e) zero ∙ sample_of-zero c.args.e)

pub returns : goal.returns
returns c =
    let m = c.args.m in
    let size = c.without_noughts-size.result.0 in
    let noughts = c.without_noughts-size.result.1 in
    let shift = c.shift_of.result in
    let fits : FitsSigned w32 shift = search rules in
    let m_same : to_z w64 (of_z w64 m) ≡ m = to_z-of_z w64 m c.ranges.m in
    let shift_same : to_z w32 (of_z w32 shift) ≡ shift = to_z-of_z w32 shift fits in
    let abs : c.unsigned_abs.result ≡ unsigned_abs m = rw m_same at c.unsigned_abs.ensures.value in
    let whole : unsigned_abs m ≡ size * 10 ^ noughts = sym abs
    ∙ c.without_noughts-size.ensures.whole in
    let bound = c.unsigned_abs.ensures.bound in
    let shift_is : shift ≡ c.args.e +ℤ pos (1000 + noughts) = omega (arith, ints) in
    rw (m_same, shift_same) at c.in_form.ensures
    ∙ sym (sample_of-stripped m c.args.e shift size noughts whole
    c.without_noughts-size.ensures.last (omega arith) shift_is)
