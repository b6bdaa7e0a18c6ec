use Rattle.std.proofs.Common.{filter, map, ap, ◌∙◌, sym, subst}
use Rattle.std.specs.Prelude.{bytes_eq}
use Rattle.vm_index.specs.Index.{PostingsRise, postings_of}
use Rattle.vm_index.specs.Texts.{AreTexts, is_value_in}
use Rattle.vm_index.specs.declared.posting.Posting.{Posting}
use Rattle.vm_index.proofs.LookupLaws.{postings_rise}
use Rattle.vm_index.proofs.NameLaws.{values_are}
use Rattle.vm_index.proofs.index.Index.values.Goals as goal

pub values_of-requires : goal.values_of-requires
values_of-requires c =
    subst PostingsRise (sym (c.as_slice.ensures ∙ c.self.invariant.posted))
    (postings_rise c.self.inside.sets)

pub returns : goal.returns
returns c =
    subst (AreTexts (is_value_in c.args.self.now c.args.name.now))
    (sym (c.from_vec.ensures ∙ c.in_ok-values.ensures
    ∙ ap (λ qs.
    map (λ (q : Posting). q.pair.value)
    (filter (λ (q : Posting). bytes_eq q.pair.name c.args.name.now) qs))
    (c.as_slice.ensures ∙ c.self.invariant.posted ∙ ap postings_of c.self.view_is)))
    (values_are c.args.self.now c.args.name.now)
