use Rattle.std.proofs.Common.{◌≡◌, [], ◌∷◌, true, false, not, length, eqb, sym, ap, subst, ◌∙◌, filter}
use Rattle.vm_base.specs.Sorted.{sorted}
use Rattle.vm_labels.specs.Labels.{IsLabels, keeps, labels_without, is_in_pair_order}
use Rattle.vm_labels.specs.Name.{is_name}
use Rattle.vm_labels.proofs.ChangeLaws.{labels-filter, labels-with}
use Rattle.vm_labels.proofs.labels.Labels.with.Goals as goal

pub from_pairs-requires : goal.from_pairs-requires
from_pairs-requires c =
    let is = c.from_vec.ensures ∙ c.in_ok-pairs.ensures
    ∙ ap (filter (keeps false c.from_ref.result.now)) c.as_slice.ensures.pairs in
    subst IsLabels (sym is)
    (labels-filter (keeps false c.from_ref.result.now) c.args.self.now
    c.as_slice.ensures.labels)

pub from_pairs-requires-2 : goal.from_pairs-requires-2
from_pairs-requires-2 c =
    let name = c.in_ok-name.name in
    let value = c.in_ok-value.value in
    let others = c.in_ok-pairs.ensures
    ∙ ap (λ names. filter (keeps false names) c.as_slice.result.now) c.from_ref.ensures.value
    ∙ ap (labels_without (name ∷ [])) c.as_slice.ensures.pairs in
    let is = c.from_vec-2.ensures ∙ c.in_ok-pairs-2.ensures
    ∙ ap (λ ps. sorted is_in_pair_order (record { name = name; value = value } ∷ ps)) others in
    let named : is_name name ≡ true =
    ap is_name (c.in_ok-name.ensures ∙ sym c.as_bytes.ensures.value) ∙ sym c.is_name.ensures
    ∙ c.if-not-is_name.false in
    let valued : not (eqb (length value) 0) ≡ true =
    ap (λ t. not (eqb (length t) 0)) c.in_ok-value.ensures
    ∙ ap not (sym c.is_empty.ensures ∙ c.if-is_empty.false) in
    subst IsLabels (sym is)
    (labels-with (record { name = name; value = value }) c.args.self.now
    c.as_slice.ensures.labels named valued)
