use Rattle.std.proofs.Common.{rules, arith, sym, ap, ◌∙◌, ◌≡◌, inl, inr, w64, w16, FitsSigned, to_z, of_z, pos, negsuc, ◌<ℤ◌, ◌⊎◌}
use Rattle.std.proofs.lemmas.Int.{ints, to_z-of_z}
use Rattle.std.specs.Int.{w128}
use Rattle.vm_base.specs.Sample.{sample_of}
use Rattle.vm_decimal.specs.Rounded.{sample_of_digits}
use Rattle.vm_decimal.proofs.SampleDigits.{spelling, sample_of_digits-zero, sample_of_digits-far, sample_of_digits-sample_of}
use Rattle.vm_decimal.proofs.reader.sample_at.Goals as goal
use Rattle.vm_decimal.proofs.reader.sample_at.Goals.{then-exponent-ltminus1000-via-then-exponent-ltminus1000, then-exponent-ltminus1000-via-else-exponent-ltminus1000+then-exponent-gt1000}

pub returns-then-size-eq0 : goal.returns-then-size-eq0
returns-then-size-eq0 c =
    sym (ap (λ n. sample_of_digits (spelling c.args.negative n c.args.exponent)) c.if-size-eq0.true
    ∙ sample_of_digits-zero c.args.negative c.args.exponent)

pub returns-then-exponent-ltminus1000 : goal.returns-then-exponent-ltminus1000
returns-then-exponent-ltminus1000 c =
    let far : (c.args.exponent <ℤ negsuc 999) ⊎ (pos 1000 <ℤ c.args.exponent) =
    elim c.then-exponent-ltminus1000.branch [
      | then-exponent-ltminus1000-via-then-exponent-ltminus1000 w ↦
          inl (omega (arith, ints, w.if-exponent-ltminus1000.true))
      | then-exponent-ltminus1000-via-else-exponent-ltminus1000+then-exponent-gt1000 w ↦
          inr (omega (arith, ints, w.if-exponent-gt1000.true))
    ] in
    sym (sample_of_digits-far c.args.negative c.args.size c.args.exponent (omega arith) c.requires
    far)

pub returns : goal.returns
returns c =
    let m = c.mantissa.result in
    let e = c.args.exponent in
    let wide : to_z w128 (of_z w128 e) ≡ e = to_z-of_z w128 e (search rules) in
    let short : FitsSigned w16 e = search rules in
    let m_same : to_z w64 (of_z w64 m) ≡ m = to_z-of_z w64 m (search rules) in
    let e_same : to_z w16 (of_z w16 e) ≡ e = to_z-of_z w16 e short in
    rw (m_same, wide, e_same) at c.of.ensures
    ∙ ap (λ z. sample_of z e) c.mantissa.ensures
    ∙ sym (sample_of_digits-sample_of c.args.negative c.args.size e c.requires)
