-- The words of a query's text: its tokens with what they are spelled as.
use Rattle.std.specs.Prelude.{ℕ, List, map}
use Rattle.mql_lex.specs.Tokens.{slice_of}
use Rattle.mql_lex.specs.declared.token.Token.{Token}
use Rattle.mql_lex.specs.declared.token.TokenKind.{TokenKind}

-- a token by its own text, at its place in the query's
pub record Word : Type 0 where
  pub kind : TokenKind
  pub text : List ℕ
  pub at : ℕ

-- a token of a text as a word
abbrev pub word_of : List ℕ → Token → Word
word_of text token = record { kind = token.kind; text = slice_of text token; at = token.at }

-- the tokens of a text as words
abbrev pub words_of : List ℕ → List Token → List Word
words_of text tokens = map (word_of text) tokens
