-- A text cut into tokens, as it is computed. That these are its tokens is proved.
use Rattle.std.specs.Prelude.{◌≡◌, ℕ, zero, suc, ◌-◌, nat_lt, List, [], ◌∷◌, ◌++◌, length, drop, Option, Some, None, Result, Ok, Err, if◌then◌else◌, ⊤}
use Rattle.std.specs.Option.{option_map_or}
use Rattle.mql_lex.specs.Grammar.{may_end}
use Rattle.mql_lex.specs.Machine.{next, piece_of}
use Rattle.mql_lex.specs.declared.fault.LexFault.{LexFault}
use Rattle.mql_lex.specs.declared.fault.LexFault.TheVariants.{TooLong, BadToken, Memory}
use Rattle.mql_lex.specs.declared.phase.Phase.{Phase}
use Rattle.mql_lex.specs.declared.phase.Phase.TheVariants.{Start}
use Rattle.mql_lex.specs.declared.piece.Piece.{Piece}
use Rattle.mql_lex.specs.declared.piece.Piece.TheVariants.{Token, Gap}
use Rattle.mql_lex.specs.declared.token.Token.{Token as TokenOf}

-- how many bytes the machine goes on from a phase, and the phase that it reaches
abbrev pub reach : Phase → List ℕ → ℕ × Phase
reach phase [] = (0, phase)
reach phase (byte ∷ more) =
    option_map_or (λ behind. (suc (reach behind more).0, (reach behind more).1)) (next phase byte)
    (0, phase)

-- the piece that ends after so many bytes of a text, and its length
abbrev pub ended : List ℕ → ℕ → Option Piece → Option (Piece × ℕ)
ended text len None = None
ended text len (Some piece) = if may_end piece (drop len text) then Some (piece, len) else None

-- the piece at the front of a text
unfoldable pub piece_reading : List ℕ → Option (Piece × ℕ)
piece_reading text = ended text (reach Start text).0 (piece_of (reach Start text).1)

-- these tokens, and then those
abbrev pub put_before : List TokenOf → Result (List TokenOf) ℕ → Result (List TokenOf) ℕ
put_before tokens (Ok more) = Ok (tokens ++ more)
put_before tokens (Err at) = Err at

-- the token that a piece is, if it is one
abbrev pub token_of : Piece → (at len : ℕ) → List TokenOf
token_of (Token kind) at len = record { kind = kind; at = at; len = len } ∷ []
token_of Gap at len = []

-- What a piece at a place and the rest come to. `rest` takes the piece's length less one.
abbrev pub with_piece : ℕ → Option (Piece × ℕ) → (ℕ → Result (List TokenOf) ℕ)
    → Result (List TokenOf) ℕ
with_piece at None rest = Err at
with_piece at (Some (piece, len)) rest = put_before (token_of piece at len) (rest (len - 1))

-- The tokens of a text whose first byte has the place `at`, or the place where none begins. The
-- first `skip` bytes belong to a piece that was taken.
abbrev pub lexed : (skip at : ℕ) → List ℕ → Result (List TokenOf) ℕ
lexed skip at [] = Ok []
lexed (suc skip) at (byte ∷ more) = lexed skip (suc at) more
lexed zero at (byte ∷ more) =
    with_piece at (piece_reading (byte ∷ more)) (λ skip. lexed skip (suc at) more)

-- the tokens, or the bad place as a fault
abbrev pub or_bad : Result (List TokenOf) ℕ → Result (List TokenOf) LexFault
or_bad (Ok tokens) = Ok tokens
or_bad (Err at) = Err (BadToken at)

-- what a text comes to
unfoldable pub reading : List ℕ → Result (List TokenOf) LexFault
reading text =
    if nat_lt 16384 (length text) then Err (TooLong (length text)) else or_bad (lexed 0 0 text)

-- The reading is this fault. `Memory` says nothing of the reading.
abbrev pub Fails : LexFault → Result (List TokenOf) LexFault → Type 0
Fails Memory read = ⊤
Fails fault read = read ≡ Err fault

-- An answer is the reading, unless memory runs out.
abbrev pub Gives : Result (List TokenOf) LexFault → Result (List TokenOf) LexFault → Type 0
Gives (Ok tokens) read = read ≡ Ok tokens
Gives (Err fault) read = Fails fault read
