use Rattle.std.proofs.Common.{ap, subst, ◌∙◌, arith}
use Rattle.vm_labels.specs.Bytes.{Reads, label_set_of}
use Rattle.vm_labels.proofs.BrokenLaws.{refusal}
use Rattle.vm_labels.proofs.ReadLaws.{set_again, is_found}
use Rattle.vm_labels.proofs.labels.Labels.read.Goals as goal

pub returns-clause-found : goal.returns-clause-found
returns-clause-found c =
    is_found c.args.bytes.now c.label_set_of.result (λ i. omega (arith, c.type_inv.bytes i))
    c.label_set_of.ensures

pub returns-clause-broken : goal.returns-clause-broken
returns-clause-broken c =
    refusal c.args.bytes.now c.label_set_of.result (λ i. omega (arith, c.type_inv.bytes i))
    c.label_set_of.ensures

pub returns-clause-only : goal.returns-clause-only
returns-clause-only c =
    λ pairs set same.
    subst (Reads c.label_set_of.result) (ap label_set_of same ∙ set_again pairs set)
    c.label_set_of.ensures
