-- The sections, one behind the other.
use Rattle.std.proofs.Common.{◌≡◌, ◌++◌, length, ap, ◌∙◌, arith}
use Rattle.std.proofs.lemmas.Result.{IfOk-weaker}
use Rattle.vm_part.specs.inner.Making.{footer_bytes, with_sections}
use Rattle.vm_part.proofs.BuildLaws.{footer_with, sections_put}
use Rattle.vm_part.proofs.build.put_sections.Goals as goal

pub returns-clause-bytes : goal.returns-clause-bytes
returns-clause-bytes c =
    let before = c.args.out.now.items in
    let one = c.put_entries.new.out.items in
    let two = c.extend_from_slice.new.self.items in
    let three = c.extend_from_slice-2.new.self.items in
    let after = c.put_footer.new.out.items in
    let sets = c.args.index.now in
    let m = c.len-entries_at.result in
    let n = c.len-table_at.result in
    let p = c.len-postings_at.result in
    let many = length c.sets.result.now in
    let at : m ≡ length before = omega (arith, c.len-entries_at.ensures) in
    let table_at : n ≡ length one = omega (arith, c.len-table_at.ensures) in
    let postings_at : p ≡ length two = omega (arith, c.len-postings_at.ensures) in
    IfOk-weaker c.put_footer.result
    (λ _. after ≡ three ++ footer_bytes (footer_with m n p many c.args.rows))
    (λ _. after ≡ with_sections before c.args.entries.now sets (length sets) c.args.rows)
    (λ _ is. sections_put before one two three after c.args.entries.now sets m n p many c.args.rows
    c.in_ok-put_entries.ensures
    (c.in_ok-extend_from_slice.ensures.items ∙ ap (λ bs. one ++ bs) c.table.ensures)
    (c.in_ok-extend_from_slice-2.ensures.items ∙ ap (λ bs. two ++ bs) c.postings.ensures)
    at table_at postings_at (ap length c.sets.ensures.sets) is)
    c.put_footer.ensures
