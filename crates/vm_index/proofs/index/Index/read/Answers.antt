use Rattle.std.proofs.Common.{◌≡◌, false, None, ap, ◌∙◌, sym, subst}
use Rattle.std.specs.List.{AllByRecursion}
use Rattle.std.proofs.lemmas.Result.{err_from_is_err_and}
use Rattle.vm_labels.specs.Labels.{is_too_long}
use Rattle.vm_index.specs.Bytes.{postings_bytes, postings_fields, table_bytes}
use Rattle.vm_index.specs.Index.{AreSets, postings_of}
use Rattle.vm_index.specs.Reading.{IsTable, first_off}
use Rattle.vm_index.specs.declared.posting.Posting.{Posting}
use Rattle.vm_index.specs.declared.fault.IndexFault.TheVariants.{BrokenPostings}
use Rattle.vm_index.proofs.BytesLaws.{short_postings}
use Rattle.vm_index.proofs.ReadLaws.{keep_limits, nothing_off}
use Rattle.vm_index.proofs.TableLaws.{only_memory, refused}
use Rattle.vm_index.proofs.index.Index.read.Goals as goal

pub first_off-requires : goal.first_off-requires
first_off-requires c =
    let sets = c.in_ok-sets.sets in
    subst (AllByRecursion (λ (q : Posting). is_too_long q.pair ≡ false))
    (sym (c.as_slice-2.ensures ∙ c.in_ok-due.ensures ∙ ap postings_of c.as_slice.ensures))
    (short_postings sets (keep_limits sets c.in_ok-sets.ensures.found.labels.written))

pub invariant_of-result : goal.invariant_of-result
invariant_of-result c =
    let sets = c.in_ok-sets.sets in
    let due = c.in_ok-due.ensures ∙ ap postings_of c.as_slice.ensures in
    let none : first_off (postings_fields (postings_of sets)) c.args.postings.now ≡ None =
    ap (λ qs. first_off (postings_fields qs) c.args.postings.now) (sym (c.as_slice-2.ensures ∙ due))
    ∙ sym c.in_default.ensures in
    record {
      labels = subst AreSets (sym c.sets.view_is) c.in_ok-sets.ensures.found.labels;
      tabled = c.in_ok-from_slice.ensures.items ∙ c.in_ok-sets.ensures.found.spelled
          ∙ ap table_bytes (sym c.sets.view_is);
      posted = c.due.view_is ∙ due ∙ ap postings_of (sym c.sets.view_is);
      spelled = c.in_ok-from_slice-2.ensures.items
          ∙ nothing_off (postings_fields (postings_of sets)) c.args.postings.now none
          ∙ ap (λ s. postings_bytes (postings_of s)) (sym c.sets.view_is);
    }

pub returns-clause-found : goal.returns-clause-found
returns-clause-found c =
    let sets = c.in_ok-sets.sets in
    let due = c.as_slice-2.ensures ∙ c.in_ok-due.ensures ∙ ap postings_of c.as_slice.ensures in
    let none : first_off (postings_fields (postings_of sets)) c.args.postings.now ≡ None =
    ap (λ qs. first_off (postings_fields qs) c.args.postings.now) (sym due)
    ∙ sym c.in_default.ensures in
    subst (λ s. IsTable c.args.count c.args.table.now s
    × (c.args.postings.now ≡ postings_bytes (postings_of s))) (sym c.sets.view_is) (
      c.in_ok-sets.ensures.found,
      nothing_off (postings_fields (postings_of sets)) c.args.postings.now none,
    )

pub returns-in_err-sets-clause-only : goal.returns-in_err-sets-clause-only
returns-in_err-sets-clause-only c = λ sets is spelled.
    let fault = c.in_err-sets.field-0.0 in
    let p = err_from_is_err_and c.from_residual.result c.from_residual.ensures.1 in
    rw (p.1, p.2)
    (only_memory c.args.count c.args.table.now c.args.postings.now sets fault is spelled
    (refused c.args.count c.args.table.now c.args.postings.now fault c.in_err-sets.ensures.broken))

pub returns-in-Some-clause-only : goal.returns-in-Some-clause-only
returns-in-Some-clause-only c = λ sets is spelled.
    let postings = c.args.postings.now in
    let due = c.as_slice-2.ensures ∙ c.in_ok-due.ensures ∙ ap postings_of c.as_slice.ensures in
    only_memory c.args.count c.args.table.now postings sets (BrokenPostings c.in-Some.at) is spelled (
      c.in_ok-sets.sets,
      c.in_ok-sets.ensures.found,
      ap (λ qs. first_off (postings_fields qs) postings) (sym due) ∙ sym c.in-Some.ensures,
    )
