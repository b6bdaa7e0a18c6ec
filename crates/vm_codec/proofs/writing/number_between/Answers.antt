-- The differences fit 64 bits.
use Rattle.std.proofs.Common.{ℤ, ◌-ℤ◌, ap, ap₂, ◌∙◌, w64, to_z, of_z}
use Rattle.std.proofs.lemmas.Int.{to_z-of_z}
use Rattle.vm_codec.specs.Integer.{zigzag}
use Rattle.vm_codec.proofs.Values.{differ}
use Rattle.vm_codec.proofs.Written.{gap_fits}
use Rattle.vm_codec.proofs.writing.number_between.Goals as goal

pub returns : goal.returns
returns c =
    let wrapped = λ (n : ℤ) (v : ℤ). to_z w64 (of_z w64 (n -ℤ v)) in
    let difference =
    ap₂ wrapped (to_z-of_z w64 c.args.next c.ranges.next)
    (to_z-of_z w64 c.args.value c.ranges.value)
    ∙ differ c.args.next c.args.value c.requires.next c.requires.value in
    c.zigzag.ensures
    ∙ ap zigzag
    (ap₂ wrapped difference (to_z-of_z w64 c.args.lean c.ranges.lean)
    ∙ gap_fits c.args.next c.args.value c.args.lean c.requires.next c.requires.value
    c.requires.lean)
