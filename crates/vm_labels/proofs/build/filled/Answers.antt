use Rattle.std.proofs.Common.{rules}
use Rattle.std.proofs.lemmas.Fn.{filter_same}
use Rattle.vm_labels.specs.Labels.{has_value}
use Rattle.vm_labels.proofs.build.filled.Goals as goal

pub returns : goal.returns
returns c = filter_same _ has_value _ (λ x r f' k. search rules) _ _ c.retain.ensures.filtered
