-- A machine that reads one piece of a text, one byte at a time. That it reads what
-- `specs/Grammar.antt` says is proved.
use Rattle.std.specs.Prelude.{ℕ, ◌==◌, ◌||◌, not, Bool, Option, Some, None, if◌then◌else◌, codes}
use Rattle.std.specs.Char.{is_ascii_digit}
use Rattle.std.specs.List.{list_any}
use Rattle.vm_labels.specs.Name.{begins_name, is_name_byte}
use Rattle.mql_lex.specs.Grammar.{is_blank, is_escape, is_quote, is_sign}
use Rattle.mql_lex.specs.declared.phase.Phase.{Phase}
use Rattle.mql_lex.specs.declared.phase.Phase.TheVariants.{Start, Named, Whole, Bare, Fraction, Marked, MarkSigned, Power, Minutes, Counted, Counting, Within, Escaped, Closed, Marking, Equals, Bang, Angle, Blanks, Comment}
use Rattle.mql_lex.specs.declared.piece.Piece.{Piece}
use Rattle.mql_lex.specs.declared.piece.Piece.TheVariants.{Token, Gap}
use Rattle.mql_lex.specs.declared.token.TokenKind.TheVariants.{Name, Number, Duration, Str, Mark}

-- `e` or `E`
abbrev pub is_mark_letter : ℕ → Bool
is_mark_letter byte = byte == 101 || byte == 69

-- a unit but `m`, of one byte
abbrev pub is_unit : ℕ → Bool
is_unit byte = list_any (λ unit. byte == unit) (codes "shdwyi")

-- a mark with which no longer one begins
abbrev pub is_lone_mark : ℕ → Bool
is_lone_mark byte = list_any (λ mark. byte == mark) (codes "(){}[],+-*/%")

-- this phase where a test holds
abbrev pub only_if : Phase → Bool → Option Phase
only_if phase test = if test then Some phase else None

-- this phase after a digit, the other one after any other byte
abbrev pub digit_or : Phase → ℕ → Option Phase → Option Phase
digit_or phase byte other = if is_ascii_digit byte then Some phase else other

-- the phase after the first byte of a piece, none where no piece begins with it
abbrev pub first : ℕ → Option Phase
first byte =
    digit_or Whole byte (
    if begins_name byte then Some Named
    else (if is_blank byte then Some Blanks
    else (if byte == 46 then Some Bare
    else (if is_quote byte then Some (Within byte)
    else (if byte == 35 then Some Comment
    else (if byte == 61 then Some Equals
    else (if byte == 33 then Some Bang
    else (if byte == 60 || byte == 62 then Some Angle
    else only_if Marking (is_lone_mark byte)))))))))

-- the phase after a byte that follows digits and begins a unit
abbrev pub behind_count : ℕ → Option Phase
behind_count byte = if byte == 109 then Some Minutes else only_if Counted (is_unit byte)

-- the phase after a byte that isn't a digit and follows digits, which may be of a number
abbrev pub behind_whole : ℕ → Option Phase
behind_whole byte =
    if byte == 46 then Some Fraction
    else (if is_mark_letter byte then Some Marked else behind_count byte)

-- the phase after a byte in a string that this quote opened
abbrev pub within : ℕ → ℕ → Option Phase
within quote byte =
    if byte == quote then Some Closed
    else (if byte == 92 then Some (Escaped quote) else Some (Within quote))

-- the phase after a byte, none where no piece goes on with it
abbrev pub next : Phase → ℕ → Option Phase
next Start byte = first byte
next Named byte = only_if Named (is_name_byte byte)
next Whole byte = digit_or Whole byte (behind_whole byte)
next Bare byte = digit_or Fraction byte None
next Fraction byte = digit_or Fraction byte (only_if Marked (is_mark_letter byte))
next Marked byte = digit_or Power byte (only_if MarkSigned (is_sign byte))
next MarkSigned byte = digit_or Power byte None
next Power byte = digit_or Power byte None
next Minutes byte = digit_or Counting byte (only_if Counted (byte == 115))
next Counted byte = digit_or Counting byte None
next Counting byte = digit_or Counting byte (behind_count byte)
next (Within quote) byte = within quote byte
next (Escaped quote) byte = only_if (Within quote) (is_escape byte)
next Closed byte = None
next Marking byte = None
next Equals byte = only_if Marking (byte == 61 || byte == 126)
next Bang byte = only_if Marking (byte == 61 || byte == 126)
next Angle byte = only_if Marking (byte == 61)
next Blanks byte = only_if Blanks (is_blank byte)
next Comment byte = only_if Comment (not (byte == 10))

-- the piece that may end in a phase
abbrev pub piece_of : Phase → Option Piece
piece_of Named = Some (Token Name)
piece_of Whole = Some (Token Number)
piece_of Fraction = Some (Token Number)
piece_of Power = Some (Token Number)
piece_of Minutes = Some (Token Duration)
piece_of Counted = Some (Token Duration)
piece_of Closed = Some (Token Str)
piece_of Marking = Some (Token Mark)
piece_of Equals = Some (Token Mark)
piece_of Angle = Some (Token Mark)
piece_of Blanks = Some Gap
piece_of Comment = Some Gap
piece_of _ = None
