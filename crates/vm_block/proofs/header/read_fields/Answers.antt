-- The lengths come last.
use Rattle.std.specs.Int.{cast_signed}
use Rattle.std.proofs.Common.{◌==◌, ap, ap₂, sym, ◌∙◌, is_some, w16, w64, rules}
use Rattle.std.proofs.lemmas.Int.{to_z-of_z}
use Rattle.vm_codec.specs.Coding.{in_bounds}
use Rattle.vm_block.specs.Header.{is_count, is_exponent, is_time, is_last_time}
use Rattle.vm_block.proofs.Headers.{lens_broken}
use Rattle.vm_block.proofs.header.read_fields.Goals as goal

pub returns-in-Err-clause-broken : goal.returns-in-Err-clause-broken
returns-in-Err-clause-broken c =
    lens_broken c.args.bytes.now c.in-Err.broken.at
    (ap is_count (sym c.u16_at-count.ensures) ∙ sym c.is_count.ensures ∙ c.in_ok-check.ensures.ok)
    (ap is_some c.in_ok-times.ensures.ok) (ap is_some c.in_ok-values.ensures.ok)
    (ap is_exponent
    (ap (cast_signed w16) (sym c.u16_at.ensures) ∙ sym c.cast_signed-exponent.ensures
    ∙ sym (to_z-of_z w16 c.cast_signed-exponent.result (search rules)))
    ∙ sym c.is_exponent.ensures ∙ c.in_ok-check-2.ensures.ok)
    (ap (λ n. n == 0) (sym c.u16_at-2.ensures) ∙ c.in_ok-check-3.ensures.ok)
    (ap is_time (sym c.u64_at-first_time.ensures) ∙ sym c.is_time.ensures
    ∙ c.in_ok-check-4.ensures.ok)
    (ap₂ is_last_time (sym c.u64_at-first_time.ensures) (sym c.u64_at-last_time.ensures)
    ∙ sym c.is_last_time.ensures ∙ c.in_ok-check-5.ensures.ok)
    (ap in_bounds
    (ap (cast_signed w64) (sym c.u64_at.ensures) ∙ sym c.cast_signed-first_m.ensures
    ∙ sym (to_z-of_z w64 c.cast_signed-first_m.result (search rules)))
    ∙ sym c.is_mantissa.ensures ∙ c.in_ok-check-6.ensures.ok)
    c.in-Err.ensures.broken
