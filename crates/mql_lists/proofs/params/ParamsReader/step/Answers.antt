use Rattle.std.proofs.Common.{sym, refl, ◌∙◌}
use Rattle.mql_lists.specs.Words.{word_of}
use Rattle.mql_lists.specs.declared.role.Role.TheVariants.{Free}
use Rattle.mql_lists.proofs.RoleLaws.{label_says}
use Rattle.mql_lists.proofs.params.ParamsReader.step.Goals as goal

pub name_text-requires-clause-name : goal.name_text-requires-clause-name
name_text-requires-clause-name c =
    label_says (word_of c.args.text.now c.args.token) Free
    (sym c.role_of_token.ensures ∙ c.in-Free.is) refl
