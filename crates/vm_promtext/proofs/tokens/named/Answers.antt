use Rattle.std.proofs.Common.{ap, ◌∙◌}
use Rattle.std.proofs.Common.{take}
use Rattle.vm_labels.specs.Name.{is_name}
use Rattle.vm_promtext.proofs.TokenLaws.{front_named}
use Rattle.vm_promtext.proofs.tokens.named.Goals as goal

pub returns-clause-named : goal.returns-clause-named
returns-clause-named c =
    ap (λ n. is_name (take n c.args.text.now)) c.name_len-len.ensures.value
    ∙ front_named c.args.text.now (λ none. c.if-len-eq0.false (c.name_len-len.ensures.value ∙ none))
