use Rattle.std.proofs.Common.{◌≡◌, IfOk, false, ap, sym, subst, ◌∙◌}
use Rattle.mql_lex.specs.Tokens.{slice_of}
use Rattle.mql_lists.specs.Values.{unescaped, value_of}
use Rattle.mql_lists.proofs.TextLaws.{inner, between_is}
use Rattle.mql_lists.proofs.word.unquote.Goals as goal

pub range-requires-clause-start_boundary : goal.range-requires-clause-start_boundary
range-requires-clause-start_boundary c =
    λ _. (inner c.args.text.now c.args.token c.utf8.text c.requires.stands c.requires.quoted).begins

pub range-requires-clause-end_boundary : goal.range-requires-clause-end_boundary
range-requires-clause-end_boundary c =
    (inner c.args.text.now c.args.token c.utf8.text c.requires.stands c.requires.quoted).ends

pub returns : goal.returns
returns c =
    let parts =
    inner c.args.text.now c.args.token c.utf8.text c.requires.stands c.requires.quoted in
    let same : unescaped false c.range.result.now
    ≡ value_of (slice_of c.args.text.now c.args.token) =
    ap (unescaped false)
    (c.range.ensures.value
    ∙ sym (between_is c.args.text.now c.args.token c.requires.stands.within parts.long)) in
    subst (λ t. IfOk c.unescape.result (λ value. value ≡ t)) same c.unescape.ensures
