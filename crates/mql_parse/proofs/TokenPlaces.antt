-- Where the tokens of a text stand in it.
use Rattle.std.specs.Prelude.{ℕ, zero, suc, ◌+◌, ◌<◌, List, [], ◌∷◌, length}
use Rattle.std.proofs.Common.{arith, get_or}
use Rattle.mql_lex.specs.Tokens.{AreTokens, AreInOrder, StandsIn}
use Rattle.mql_lex.specs.declared.token.Token.{Token}
use Rattle.mql_lex.proofs.Spans.{tokens_stand, tokens_in_order}

pub token_stands : (text : List ℕ) (tokens : List Token) (i : ℕ) (d : Token) → AreTokens text tokens
    → i < length tokens → StandsIn text (get_or tokens i d)
token_stands text tokens i d are inside = tokens_stand text tokens are i d inside

has_bytes : (tokens : List Token) (from i : ℕ) (d : Token) → AreInOrder from tokens
    → i < length tokens → 0 < (get_or tokens i d).len
has_bytes [] from i d order inside = absurd (omega arith)
has_bytes (t ∷ tokens) from zero d order inside = order.1
has_bytes (t ∷ tokens) from (suc i) d order inside =
    has_bytes tokens (t.at + t.len) i d order.2 (omega arith)

pub token_inside : (text : List ℕ) (tokens : List Token) (i : ℕ) (d : Token) → AreTokens text tokens
    → i < length tokens → (get_or tokens i d).at < length text
token_inside text tokens i d are inside =
    let stands = token_stands text tokens i d are inside in
    let within = stands.within in
    let some = has_bytes tokens 0 i d (tokens_in_order text tokens are) inside in
    omega arith
