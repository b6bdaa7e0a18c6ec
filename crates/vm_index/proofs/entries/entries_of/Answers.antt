use Rattle.std.proofs.Common.{◌++◌, map, ap, ◌∙◌}
use Rattle.vm_labels.specs.Labels.{IsLabels}
use Rattle.vm_index.specs.inner.Entries.{entries_from, seen}
use Rattle.vm_index.proofs.ListLaws.{all_taken}
use Rattle.vm_index.proofs.SortLaws.{entries_more}
use Rattle.vm_index.proofs.entries.entries_of.Goals as goal

pub loop-at-preserved : goal.loop-at-preserved
loop-at-preserved c = (
  entries_more c.args.sets.now c.loop-at.at c.index-sets-at.result
      (map seen c.loop-at.entries.items) (map seen c.put_entries.new.entries.items)
      (entries_from 0 c.args.sets.now)
      c.loop-at-test.true c.index-sets-at.is
      (c.in_ok-put_entries.ensures
      ∙ ap (λ ps. map seen c.loop-at.entries.items ++ map (λ p. (p, c.loop-at.at)) ps)
      c.as_slice.ensures.pairs) c.loop-at.invariant.0,
  all_taken IsLabels c.args.sets.now c.loop-at.at c.index-sets-at.result c.loop-at-test.true
      c.index-sets-at.is c.as_slice.ensures.labels c.loop-at.invariant.1,
)
