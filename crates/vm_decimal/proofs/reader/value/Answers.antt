use Rattle.std.proofs.Common.{◌≡◌, rules, arith, ◌∙◌, to_z, of_z, ◌+ℤ◌}
use Rattle.std.specs.Int.{w128}
use Rattle.std.proofs.lemmas.Int.{to_z-of_z}
use Rattle.vm_decimal.proofs.SampleDigits.{value_of}
use Rattle.vm_decimal.proofs.reader.value.Goals as goal

pub returns : goal.returns
returns c s stands =
    let size = c.rounding-size.result.0 in
    let more = c.rounding-size.result.1 in
    let last = c.last_exponent-last.result in
    let behind = c.from.result in
    let last_same : to_z w128 (of_z w128 last) ≡ last = to_z-of_z w128 last (search rules) in
    let behind_same : to_z w128 (of_z w128 behind) ≡ behind =
    to_z-of_z w128 behind (search rules) in
    let sum_same : to_z w128 (of_z w128 (last +ℤ behind)) ≡ last +ℤ behind =
    to_z-of_z w128 (last +ℤ behind) (search rules) in
    rw (last_same, behind_same, sum_same) at c.sample_at.ensures
    ∙ rw (c.last_exponent-last.ensures, c.from.ensures)
    (value_of c.args.reader.now s size more stands
    (c.rounding-size.ensures.value s.digits stands.digits)
    c.rounding-size.ensures.few (omega arith) (omega arith))
