use Rattle.std.proofs.Common.{sym, ◌∙◌}
use Rattle.mql_lists.specs.Words.{word_of}
use Rattle.mql_lists.proofs.RoleLaws.{label_says}
use Rattle.mql_lists.proofs.braces.begins_item.Goals as goal

pub name_text-requires-clause-name : goal.name_text-requires-clause-name
name_text-requires-clause-name c =
    label_says (word_of c.args.text.now c.args.token) c.args.role (sym c.requires.role)
    (sym c.is_label.ensures ∙ c.if-not-is_label.false)
