use Rattle.std.proofs.Common.{map, ap, ◌∙◌}
use Rattle.vm_base.specs.Sorted.{sorted}
use Rattle.vm_index.specs.inner.Entries.{gathered, seen}
use Rattle.vm_index.proofs.SortLaws.{gathered_are, sorted_seen, le_seen}
use Rattle.vm_index.proofs.entries.postings_of.Goals as goal

pub returns : goal.returns
returns c =
    c.from_vec.ensures
    ∙ c.in_ok-postings.ensures
    ∙ ap (λ es. gathered (map seen es)) c.deref.ensures.value
    ∙ ap gathered
    (sorted_seen seen c.in_ok-entries.entries.items c.sort_unstable.new.self.items
    c.sort_unstable.ensures.permutation c.sort_unstable.ensures.sorted
    ∙ ap (sorted le_seen) c.in_ok-entries.ensures.entries)
    ∙ gathered_are c.args.sets.now c.in_ok-entries.ensures.labels
