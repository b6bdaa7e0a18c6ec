use Rattle.std.proofs.Common.{◌≡◌, false, ap, ◌∙◌, sym, subst}
use Rattle.std.specs.List.{AllByRecursion}
use Rattle.vm_labels.specs.Labels.{is_too_long}
use Rattle.vm_index.specs.Index.{postings_of}
use Rattle.vm_index.specs.declared.posting.Posting.{Posting}
use Rattle.vm_index.proofs.BytesLaws.{short_postings}
use Rattle.vm_index.proofs.index.Index.build.Goals as goal

pub bytes_of-requires : goal.bytes_of-requires
bytes_of-requires c =
    subst (AllByRecursion (λ (q : Posting). is_too_long q.pair ≡ false))
    (sym (c.as_slice-3.ensures ∙ c.in_ok-postings.ensures
    ∙ ap postings_of c.as_slice-2.ensures)) (short_postings c.args.sets c.requires.limits)
