-- A header and two columns are the block of their samples.
use Rattle.std.proofs.Common.{◌≡◌, ◌≤◌, IfOk, Ok, Err, Result, List, ℕ, pos, All, Some, slice_get, length, refl, ap, sym, subst, ◌∙◌, arith}
use Rattle.std.proofs.lemmas.List.{length-map}
use Rattle.std.specs.declared.alloc.AllocError.{AllocError}
use Rattle.vm_base.specs.declared.stamped.Stamped.{Stamped}
use Rattle.vm_codec.specs.Coding.{IsColumn, IsInBounds, chosen}
use Rattle.vm_block.specs.Block.{times_of}
use Rattle.vm_block.specs.inner.Reading.{raised_by}
use Rattle.vm_block.specs.Written.{IsWritten}
use Rattle.vm_block.proofs.Blocks.{moved_column}
use Rattle.vm_block.proofs.Mantissas.{times_bound}
use Rattle.vm_block.proofs.Writing.{written, few_samples}
use Rattle.vm_block.proofs.encode.encode_block.Goals as goal

pub write_column-requires-clause-bounds : goal.write_column-requires-clause-bounds
write_column-requires-clause-bounds c =
    subst (All IsInBounds) (sym (c.deref.ensures.value ∙ c.in_ok-times.ensures))
    (times_bound c.args.samples.now c.requires.times)

given : (samples : List Stamped) (r : Result (List ℕ) AllocError) (x : List ℕ)
    → IfOk r (λ bytes. bytes ≡ x) → IsWritten x samples
    → IfOk r (λ bytes. IsWritten bytes samples)
given samples (Ok bytes) x is written = subst (λ bs. IsWritten bs samples) (sym is) written
given samples (Err e) x is written = tt

pub header_of-header-requires-clause-few : goal.header_of-header-requires-clause-few
header_of-header-requires-clause-few c = few_samples c.args.samples.now c.requires.fit

pub header_of-header-requires-clause-mantissas : goal.header_of-header-requires-clause-mantissas
header_of-header-requires-clause-mantissas c =
    let shift = c.common_shift-shift.result in
    omega (
      arith,
      c.requires.some,
      ap length c.deref-3.ensures.value,
      ap length c.in_ok-mantissas.ensures.values,
      length-map c.args.samples.now (λ s. s.value),
      length-map c.in_ok-mantissas.mantissas.items (raised_by shift),
    )

pub returns : goal.returns
returns c =
    let samples = c.args.samples.now in
    let h = c.header_of-header.result in
    let said = c.header_of-header.ensures in
    let ms = c.in_ok-mantissas.mantissas.items in
    let tb = c.deref-4.result.now in
    let vb = c.deref-5.result.now in
    let times : c.deref.result.now ≡ times_of samples = c.deref.ensures.value
    ∙ c.in_ok-times.ensures in
    let mantissas : c.deref-2.result.now ≡ ms = c.deref-2.ensures.value in
    let times_len : length c.deref.result.now ≡ length samples = ap length times
    ∙ length-map samples (λ s. pos s.time) in
    let times_short : length tb ≤ 81920 =
    omega (arith, ap length c.deref-4.ensures.value, c.in_ok-times-2.ensures.len) in
    let values_short : length vb ≤ 81920 =
    omega (arith, ap length c.deref-5.ensures.value, c.in_ok-values.ensures.len) in
    let begins : slice_get ms 0 ≡ Some h.first_m =
    ap (λ xs. slice_get xs 0) (sym c.deref-3.ensures.value) ∙ said.first_m in
    given samples c.assemble.result _ c.assemble.ensures
    (written h samples ms tb vb c.common_shift-shift.result c.requires said.first_time
    said.last_time
    c.common_shift-shift.ensures.value c.common_shift-shift.ensures.low
    c.common_shift-shift.ensures.high
    c.in_ok-mantissas.ensures.values c.in_ok-mantissas.ensures.bounds
    c.in_ok-mantissas.ensures.samples
    said.count (said.times ∙ c.in_ok-times-2.ensures.coding ∙ ap chosen times)
    (said.values ∙ c.in_ok-values.ensures.coding ∙ ap chosen mantissas)
    said.exponent begins (said.times_len ∙ ap length (sym c.deref-4.ensures.value))
    (said.values_len ∙ ap length (sym c.deref-5.ensures.value))
    times_short values_short
    (subst (λ coding. IsColumn coding (pos h.first_time) (length samples) tb (times_of samples))
    (sym said.times)
    (moved_column c.in_ok-times-2.times.coding (pos h.first_time) (pos h.first_time)
    (length c.deref.result.now) (length samples)
    c.in_ok-times-2.times.bytes.items tb c.deref.result.now (times_of samples)
    refl times_len (sym c.deref-4.ensures.value) times
    (c.in_ok-times-2.ensures.bytes (pos h.first_time)
    (ap (λ xs. slice_get xs 0) times ∙ said.first_time))))
    (subst (λ coding. IsColumn coding h.first_m (length ms) vb ms) (sym said.values)
    (moved_column c.in_ok-values.values.coding h.first_m h.first_m (length c.deref-2.result.now)
    (length ms)
    c.in_ok-values.values.bytes.items vb c.deref-2.result.now ms
    refl (ap length mantissas) (sym c.deref-5.ensures.value) mantissas
    (c.in_ok-values.ensures.bytes h.first_m (ap (λ xs. slice_get xs 0) mantissas ∙ begins)))))
