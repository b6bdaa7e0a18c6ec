use Rattle.std.proofs.Common.{sym, ◌∙◌}
use Rattle.mql_lists.specs.Words.{word_of}
use Rattle.mql_lists.proofs.RoleLaws.{label_says}
use Rattle.mql_lists.proofs.names.NamesReader.step.Goals as goal

pub name_text-requires-clause-name : goal.name_text-requires-clause-name
name_text-requires-clause-name c =
    label_says (word_of c.args.text.now c.args.token) c.role_of_token-role.result
    (sym c.role_of_token-role.ensures)
    (sym c.is_label.ensures ∙ c.if-is_label.true)
