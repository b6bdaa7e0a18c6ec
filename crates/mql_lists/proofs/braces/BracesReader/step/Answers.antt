use Rattle.std.proofs.Common.{sym, ◌∙◌}
use Rattle.mql_lists.specs.Words.{word_of}
use Rattle.mql_lists.proofs.RoleLaws.{value_kind}
use Rattle.mql_lists.proofs.braces.BracesReader.step.Goals as goal

pub behind_sign-requires-clause-quoted : goal.behind_sign-requires-clause-quoted
behind_sign-requires-clause-quoted c =
    value_kind (word_of c.args.text.now c.args.token)
    (sym c.role_of_token-role.ensures ∙ c.in-Value.is)
