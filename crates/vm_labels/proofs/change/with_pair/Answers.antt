use Rattle.std.proofs.Common.{ap, ◌∙◌}
use Rattle.vm_base.specs.Sorted.{sorted}
use Rattle.vm_labels.specs.Labels.{is_in_pair_order}
use Rattle.vm_labels.proofs.ChangeLaws.{sorted_last}
use Rattle.vm_labels.proofs.OrderLaws.{sorted_from_pair_sort}
use Rattle.vm_labels.proofs.change.with_pair.Goals as goal

pub returns : goal.returns
returns c =
    sorted_from_pair_sort _ _ c.sort_unstable.ensures.permutation c.sort_unstable.ensures.sorted
    ∙ ap (sorted is_in_pair_order) c.in_ok-push.ensures.items
    ∙ sorted_last c.args.pair c.args.pairs.items
