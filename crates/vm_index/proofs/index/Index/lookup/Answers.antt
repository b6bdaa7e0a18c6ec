use Rattle.std.proofs.Common.{ap, ◌∙◌, sym, subst}
use Rattle.std.specs.List.{list_any}
use Rattle.vm_labels.specs.Labels.{pair_eq}
use Rattle.vm_labels.specs.declared.pair.Pair.{Pair}
use Rattle.vm_index.specs.Index.{PostingsRise, found_in, ordinals_of}
use Rattle.vm_index.specs.Numbers.{Rise}
use Rattle.vm_index.proofs.LookupLaws.{found_are, places_rise, postings_rise}
use Rattle.vm_index.proofs.index.Index.lookup.Goals as goal

pub found-requires : goal.found-requires
found-requires c =
    subst PostingsRise (sym (c.as_slice.ensures ∙ c.self.invariant.posted))
    (postings_rise c.self.inside.sets)

pub returns-clause-ordinals : goal.returns-clause-ordinals
returns-clause-ordinals c =
    let p : Pair = record { name = c.args.name.now; value = c.args.value.now } in
    c.found.ensures ∙ ap (λ qs. found_in qs p) (c.as_slice.ensures ∙ c.self.invariant.posted)
    ∙ found_are c.self.inside.sets p ∙ ap (λ sets. ordinals_of sets p) c.self.view_is

pub returns-clause-rising : goal.returns-clause-rising
returns-clause-rising c =
    let p : Pair = record { name = c.args.name.now; value = c.args.value.now } in
    subst Rise
    (sym (c.found.ensures
    ∙ ap (λ qs. found_in qs p) (c.as_slice.ensures ∙ c.self.invariant.posted)
    ∙ found_are c.self.inside.sets p)) (places_rise 0 (list_any (pair_eq p)) c.self.inside.sets)
