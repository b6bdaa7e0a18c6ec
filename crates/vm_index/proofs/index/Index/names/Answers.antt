use Rattle.std.proofs.Common.{map, ap, ◌∙◌, sym, subst}
use Rattle.std.specs.Prelude.{bytes_eq}
use Rattle.std.specs.List.{dedup}
use Rattle.vm_index.specs.Index.{postings_of}
use Rattle.vm_index.specs.Texts.{AreTexts, is_name_in}
use Rattle.vm_index.specs.declared.posting.Posting.{Posting}
use Rattle.vm_index.proofs.NameLaws.{names_are}
use Rattle.vm_index.proofs.index.Index.names.Goals as goal

pub returns : goal.returns
returns c =
    subst (AreTexts (is_name_in c.args.self.now))
    (sym (c.from_vec.ensures ∙ c.in_ok-names.ensures
    ∙ ap (λ qs. dedup bytes_eq (map (λ (q : Posting). q.pair.name) qs))
    (c.as_slice.ensures ∙ c.self.invariant.posted ∙ ap postings_of c.self.view_is)))
    (names_are c.args.self.now)
