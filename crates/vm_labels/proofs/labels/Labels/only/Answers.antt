use Rattle.std.proofs.Common.{◌≡◌, true, sym, ap, subst, ◌∙◌, filter}
use Rattle.vm_labels.specs.Labels.{IsLabels, keeps}
use Rattle.vm_labels.proofs.ChangeLaws.{labels-filter}
use Rattle.vm_labels.proofs.labels.Labels.only.Goals as goal

pub from_pairs-requires : goal.from_pairs-requires
from_pairs-requires c =
    let is : c.from_vec.result ≡ filter (keeps true c.args.names.now) c.args.self.now =
    c.from_vec.ensures ∙ c.in_ok-pairs.ensures
    ∙ ap (filter (keeps true c.args.names.now)) c.as_slice.ensures.pairs in
    subst IsLabels (sym is)
    (labels-filter (keeps true c.args.names.now) c.args.self.now c.as_slice.ensures.labels)
