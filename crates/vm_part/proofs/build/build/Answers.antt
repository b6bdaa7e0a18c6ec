-- What was written is a part of the series.
use Rattle.std.proofs.Common.{length, sum_by, ap, ◌∙◌, sym, subst, arith}
use Rattle.vm_part.specs.inner.Making.{ArePut, with_sections}
use Rattle.vm_part.specs.Said.{AreCutUp, IsMadeOf, Kept}
use Rattle.vm_part.specs.declared.entry.Entry.{Entry}
use Rattle.vm_part.proofs.BuildLaws.{made, weaker}
use Rattle.vm_part.proofs.build.build.Goals as goal

pub keep-requires : goal.keep-requires
keep-requires c =
    let before = c.in_ok-bytes.bytes.items in
    let written = c.put_series.new.out.items in
    let bytes = c.put_sections.new.out.items in
    let said = c.in_ok-entries.entries in
    let sets = c.in_ok-index.index in
    let rows = c.in_ok-rows.rows in
    let many = length sets in
    let part : Kept = record { bytes = bytes; sets = sets; entries = said; rows = rows } in
    weaker part (AreCutUp c.args.series)
    (made c.args.series before written bytes said sets rows c.requires c.in_ok-bytes.ensures.items
    (subst (λ xs. ArePut xs before written said) c.as_slice.ensures c.in_ok-entries.ensures)
    (c.in_ok-index.ensures ∙ c.in_ok-sets.ensures) c.in_ok-put_sections.ensures.sets
    (c.in_ok-rows.ensures ∙ ap (sum_by (λ (entry : Entry). entry.rows)) c.as_slice-2.ensures)
    (c.in_ok-put_sections.ensures.bytes
    ∙ ap (λ es. with_sections written es sets many rows) c.as_slice-3.ensures)
    (omega arith) (omega arith))

pub returns : goal.returns
returns c =
    let before = c.in_ok-bytes.bytes.items in
    let written = c.put_series.new.out.items in
    let bytes = c.put_sections.new.out.items in
    let said = c.in_ok-entries.entries in
    let sets = c.in_ok-index.index in
    let rows = c.in_ok-rows.rows in
    let many = length sets in
    subst (IsMadeOf c.args.series) (sym c.keep.ensures)
    (made c.args.series before written bytes said sets rows c.requires c.in_ok-bytes.ensures.items
    (subst (λ xs. ArePut xs before written said) c.as_slice.ensures c.in_ok-entries.ensures)
    (c.in_ok-index.ensures ∙ c.in_ok-sets.ensures) c.in_ok-put_sections.ensures.sets
    (c.in_ok-rows.ensures ∙ ap (sum_by (λ (entry : Entry). entry.rows)) c.as_slice-2.ensures)
    (c.in_ok-put_sections.ensures.bytes
    ∙ ap (λ es. with_sections written es sets many rows) c.as_slice-3.ensures)
    (omega arith) (omega arith))
