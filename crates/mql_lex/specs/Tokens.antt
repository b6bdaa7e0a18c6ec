-- What it is that a text's tokens are.
use Rattle.std.specs.Prelude.{◌≡◌, ◌≢◌, ◌≤◌, ◌<◌, ℕ, ◌+◌, List, [], ◌∷◌, ◌++◌, length, take, drop, true, ⊤}
use Rattle.mql_lex.specs.Grammar.{IsPiece, IsToken, may_end}
use Rattle.mql_lex.specs.declared.piece.Piece.{Piece}
use Rattle.mql_lex.specs.declared.piece.Piece.TheVariants.{Token, Gap}
use Rattle.mql_lex.specs.declared.token.Token.{Token as TokenOf}
use Rattle.mql_lex.specs.declared.token.TokenKind.{TokenKind}

-- the longest piece at the front of a text, of which `more` is left
pub record IsLongest (piece : Piece) (front more : List ℕ) : Type 0 where
  pub is : IsPiece piece front
  pub longest : (other : Piece) (longer rest : List ℕ) → front ++ more ≡ longer ++ rest
      → IsPiece other longer → length longer ≤ length front
  pub ends : may_end piece more ≡ true

-- No piece begins the text.
abbrev pub NoPiece : List ℕ → Type 0
NoPiece text = (piece : Piece) (front more : List ℕ) → text ≡ front ++ more
    → IsLongest piece front more → ⊥

-- From the place `at`, where the text `text` is left, these tokens lead to the place `far`, where
-- `rest` is left: the text is cut into pieces, each the longest at its place, and the tokens are
-- those that are no gaps.
pub data Leads (far : ℕ) (rest : List ℕ) : (at : ℕ) → (text : List ℕ) → List TokenOf → Type 0 where
  no_more : Leads far rest far rest []
  a_gap : {at : ℕ} {front more : List ℕ} {tokens : List TokenOf} → IsLongest Gap front more
      → Leads far rest (at + length front) more tokens → Leads far rest at (front ++ more) tokens
  a_token : {at : ℕ} {kind : TokenKind} {front more : List ℕ} {tokens : List TokenOf}
      → IsLongest (Token kind) front more → Leads far rest (at + length front) more tokens
      → Leads far rest at (front ++ more)
      (record { kind = kind; at = at; len = length front } ∷ tokens)

-- the tokens of the whole text: text ::= piece*, each piece the longest at its place
abbrev pub AreTokens : List ℕ → List TokenOf → Type 0
AreTokens text tokens = Leads (length text) [] 0 text tokens

-- the slice of a text that a token is
abbrev pub slice_of : List ℕ → TokenOf → List ℕ
slice_of text token = take token.len (drop token.at text)

-- a token within a text, where its slice is what its kind says
pub record StandsIn (text : List ℕ) (token : TokenOf) : Type 0 where
  pub within : token.at + token.len ≤ length text
  pub is : IsToken token.kind (slice_of text token)

-- tokens one after the other, the first at this place or after it
abbrev pub AreInOrder : ℕ → List TokenOf → Type 0
AreInOrder from [] = ⊤
AreInOrder from (token ∷ tokens) =
    (from ≤ token.at) × (0 < token.len) × AreInOrder (token.at + token.len) tokens

-- the first place, after some pieces, where more text is left and no piece begins it
pub record IsBad (text : List ℕ) (at : ℕ) : Type 0 where
  pub tokens : List TokenOf
  pub rest : List ℕ
  pub leads : Leads at rest 0 text tokens
  pub more : rest ≢ []
  pub none : NoPiece rest
