use Rattle.std.proofs.Common.{◌<◌, length, slice_get, ap, subst, ◌∙◌, sym, arith}
use Rattle.std.proofs.lemmas.Option.{slice_get-get_or}
use Rattle.std.proofs.lemmas.Grind.{common_steps}
use Rattle.std.specs.Prelude.{⊤}
use Rattle.vm_part.specs.Said.{Kept, Says}
use Rattle.vm_part.proofs.SaidLaws.{entries_many}
use Rattle.vm_part.proofs.part.MemPart.entry.Goals as goal

pub offset_bounds-as_slice-at : goal.offset_bounds-as_slice-at
offset_bounds-as_slice-at c =
    let many = entries_many _ _ c.self.invariant in
    grind (arith, common_steps)

pub bounds-as_slice-at : goal.bounds-as_slice-at
bounds-as_slice-at c =
    let many = entries_many _ _ c.self.invariant in
    grind (arith, common_steps)

pub returns : goal.returns
returns c =
    let same = ap (λ (k : Kept). k.entries) c.self.view_is in
    let many =
    entries_many c.args.self.now (λ all. ⊤)
    (subst (λ k. Says k (λ all. ⊤)) c.self.view_is c.self.invariant) in
    let within =
    subst (λ n. c.args.ordinal < n) (sym many ∙ ap length (sym same ∙ sym c.as_slice.ensures))
    c.requires in
    ap (λ xs. slice_get xs c.args.ordinal) (sym same ∙ sym c.as_slice.ensures)
    ∙ slice_get-get_or c.as_slice.result.now c.args.ordinal _ within
