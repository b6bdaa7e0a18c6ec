use Rattle.std.proofs.Common.{◌≡◌, None, Ok, sym, ap, ◌∙◌, filter}
use Rattle.std.specs.Prelude.{position}
use Rattle.vm_labels.specs.Labels.{ordered, has_value, is_badly_named}
use Rattle.vm_labels.proofs.BuildLaws.{built_is}
use Rattle.vm_labels.proofs.labels.Labels.build.Goals as goal

pub from_pairs-requires : goal.from_pairs-requires
from_pairs-requires c =
    let names : position is_badly_named c.args.pairs ≡ None =
    ap (position is_badly_named) (sym c.as_slice.ensures) ∙ sym c.bad_place.ensures
    ∙ c.in_default.is in
    let named : ordered (filter has_value c.args.pairs) ≡ Ok c.in_ok-pairs.pairs =
    ap ordered (ap (filter has_value) (sym c.into_vec.ensures) ∙ sym c.filled.ensures)
    ∙ c.in_ok-pairs.ensures in
    (built_is c.args.pairs c.in_ok-pairs.pairs names named).0
