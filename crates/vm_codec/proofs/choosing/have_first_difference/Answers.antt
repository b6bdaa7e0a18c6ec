-- The first difference, and the others.
use Rattle.std.proofs.Common.{ℤ, ◌-ℤ◌, ◌∷◌, ◌<◌, ◌^◌, unsigned_abs, All, ap, ap₂, sym, subst, ◌∙◌, w64, to_z, of_z, arith, rules}
use Rattle.std.proofs.lemmas.Int.{to_z-of_z}
use Rattle.vm_codec.specs.Coding.{IsInBounds, are_equal, differences}
use Rattle.vm_codec.proofs.Values.{differ}
use Rattle.vm_codec.proofs.Chosen.{same_test}
use Rattle.vm_codec.proofs.choosing.have_first_difference.Goals as goal

pub returns-in-Some : goal.returns-in-Some
returns-in-Some c =
    let first = c.args.first in
    let second = c.in-Some.second.now in
    let parts = c.in-Some.ensures.cases.0 in
    let inside : unsigned_abs second < 10 ^ 18 =
    subst (All IsInBounds) parts c.requires.bounds 0 second (omega arith) in
    let first_is = to_z-of_z w64 first c.ranges.first in
    let second_is = to_z-of_z w64 second (search rules) in
    let gap = ap₂ (λ (n : ℤ) (v : ℤ). to_z w64 (of_z w64 (n -ℤ v))) second_is first_is
    ∙ differ second first inside c.requires.first in
    c.go_on_by.ensures ∙ same_test _ _ _ _ c.in-Some.more.now gap second_is
    ∙ ap (λ vs. are_equal (differences (first ∷ vs))) (sym parts)
