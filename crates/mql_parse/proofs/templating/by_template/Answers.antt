use Rattle.std.proofs.Common.{sym, ◌∙◌}
use Rattle.mql_lists.specs.Words.{word_of}
use Rattle.mql_parse.proofs.WordKinds.{identifier_kind}
use Rattle.mql_parse.proofs.templating.by_template.Goals as goal

pub heading-requires-clause-name : goal.heading-requires-clause-name
heading-requires-clause-name c =
    identifier_kind (word_of c.args.text.now c.args.token)
    (sym c.class_of.ensures ∙ c.in-Identifier.is)
