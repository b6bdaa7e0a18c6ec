use Rattle.std.proofs.Common.{rules, ◌≡◌, ◌*◌, ◌^◌, ◌<◌, ◌∙◌, arith}
use Rattle.std.specs.Int.{w128}
use Rattle.std.proofs.lemmas.Int.{to_z-of_z}
use Rattle.vm_decimal.proofs.Exacts.{read_value, read_wide}
use Rattle.vm_decimal.proofs.dec_text.number_read.Goals as goal

pub returns-in_default : goal.returns-in_default
returns-in_default c s stands reads = read_wide s (c.in_default.ensures.value s stands reads)

pub returns : goal.returns
returns c s stands reads =
    let digits : s.digits ≡ c.in-Some.size * 10 ^ c.in-Some.noughts =
    c.in-Some.ensures.value s stands reads in
    let few : c.in-Some.size < 10 ^ 38 = c.in-Some.ensures.few in
    let same = to_z-of_z w128 c.exponent_behind.result (search rules)
    ∙ c.exponent_behind.ensures.value in
    rw same at c.dec_at.ensures
    ∙ read_value c.args.reader.now s c.in-Some.size c.in-Some.noughts stands digits few
    (omega (arith, c.in-Some.ensures.short)) (omega (arith, c.exponent_behind.ensures.near))
