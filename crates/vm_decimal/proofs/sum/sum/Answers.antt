use Rattle.std.proofs.Common.{rules, ◌^◌, pos, ◌+ℤ◌, ◌*ℤ◌, ap, ap₂, ◌∙◌, to_z, of_z}
use Rattle.std.proofs.lemmas.Int.{to_z-of_z}
use Rattle.std.specs.Int.{w128}
use Rattle.vm_decimal.specs.Dec.{in_range}
use Rattle.vm_decimal.proofs.Levels.{sum_at}
use Rattle.vm_decimal.proofs.sum.sum.Goals as goal

pub returns-in-Some : goal.returns-in-Some
returns-in-Some c =
    let both = c.in-Some.both in
    let is = c.in-Some.ensures in
    let one = to_z-of_z w128 both.one (search rules) in
    let two = to_z-of_z w128 both.two (search rules) in
    let all = to_z w128 (of_z w128 both.one) +ℤ to_z w128 (of_z w128 both.two) in
    c.placed_at.ensures
    ∙ ap (λ m. in_range (m *ℤ pos (10 ^ both.shift)))
    (to_z-of_z w128 all (search rules) ∙ ap₂ ◌+ℤ◌ one two)
    ∙ sum_at both.one both.two c.args.one c.args.two both.shift is.one_is is.two_is
