-- The sum, as the definition has it.
use Rattle.std.proofs.Common.{◌+ℤ◌, Some, ap, ap₂, sym, ◌∙◌, w64, to_z, of_z, rules}
use Rattle.std.proofs.lemmas.Int.{to_z-of_z}
use Rattle.vm_codec.specs.inner.Reading.{bounded}
use Rattle.vm_codec.proofs.Values.{sum_fits, next_is}
use Rattle.vm_codec.proofs.reading.next_value.Goals as goal

pub returns-clause-value : goal.returns-clause-value
returns-clause-value c =
    let sum = ap₂ (λ a b. bounded (a +ℤ b))
    (ap₂ (λ v l. to_z w64 (of_z w64 (v +ℤ l))) (to_z-of_z w64 c.args.value c.ranges.value)
    (to_z-of_z w64 c.args.lean c.ranges.lean)
    ∙ sum_fits c.args.value c.args.lean c.requires.bound c.requires.lean)
    (to_z-of_z w64 c.unzigzag.result (search rules) ∙ c.unzigzag.ensures) in
    ap (λ n. Some (n, c.in_ok-number.rest.now)) (to_z-of_z w64 c.in_ok-next.next (search rules))
    ∙ sym (next_is c.args.value c.args.lean c.in_ok-next.next c.in_ok-number.number c.args.bytes.now
    c.in_ok-number.rest.now
    (sym c.in_ok-number.ensures.value) (sym sum ∙ sym c.in_ok-next.ensures.value))
