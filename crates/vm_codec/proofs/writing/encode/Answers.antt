-- The bytes of the coding that is chosen.
use Rattle.std.proofs.Common.{◌-ℤ◌, sym, ◌∙◌, ap, ap₂, pos, slice_index_or, w64, rules}
use Rattle.std.proofs.lemmas.Int.{to_z-of_z}
use Rattle.vm_codec.specs.Integer.{zigzag}
use Rattle.vm_codec.specs.Coding.{spelling}
use Rattle.vm_codec.proofs.Columns.{less_nothing}
use Rattle.vm_codec.proofs.Chosen.{column_of, one_integer, chosen_two}
use Rattle.vm_codec.proofs.writing.encode.Goals as goal

pub returns-in-Const-clause-column : goal.returns-in-Const-clause-column
returns-in-Const-clause-column c =
    column_of c.args.coding c.args.values.now _ c.requires.coding c.requires.some c.requires.bounds
    (ap (λ coding. spelling coding c.args.values.now) (sym c.in-Const.is))

pub returns-in-DeltaConst-clause-column : goal.returns-in-DeltaConst-clause-column
returns-in-DeltaConst-clause-column c =
    let values = c.args.values.now in
    let two = chosen_two values c.requires.some (sym c.in-DeltaConst.is ∙ c.requires.coding) in
    let gap =
    ap₂ (λ n v. zigzag (n -ℤ v -ℤ pos 0))
    (to_z-of_z w64 (slice_index_or values 1 (pos 0)) (search rules))
    (to_z-of_z w64 (slice_index_or values 0 (pos 0)) (search rules)) in
    column_of c.args.coding values _ c.requires.coding c.requires.some c.requires.bounds
    (c.write_number.ensures.front
    ∙ one_integer values c.number_between.result two
    (c.number_between.ensures ∙ gap ∙ ap zigzag (less_nothing _))
    ∙ ap (λ coding. spelling coding values) (sym c.in-DeltaConst.is))
