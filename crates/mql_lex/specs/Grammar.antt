-- The texts of tokens, and what may stand between them. (PromQL, "Literals" and "Time durations";
-- MetricsQL adds the unit `i`)
use Rattle.std.specs.Prelude.{◌≡◌, ◌⊎◌, ℕ, ◌<◌, ◌==◌, ◌&&◌, ◌||◌, not, Bool, true, false, List, [], ◌∷◌, ◌++◌, length, slice_index, codes}
use Rattle.std.specs.Char.{is_ascii_digit, is_ascii_alphabetic}
use Rattle.std.specs.List.{list_all}
use Rattle.vm_decimal.specs.Spelled.{IsAnyNumber, IsDigits}
use Rattle.vm_labels.specs.Name.{is_name}
use Rattle.mql_lex.specs.declared.token.TokenKind.{TokenKind}
use Rattle.mql_lex.specs.declared.token.TokenKind.TheVariants.{Name, Number, Duration, Str, Mark}
use Rattle.mql_lex.specs.declared.piece.Piece.{Piece}
use Rattle.mql_lex.specs.declared.piece.Piece.TheVariants.{Token, Gap}

-- one of these texts
abbrev pub IsOneOf : List (List ℕ) → List ℕ → Type 0
IsOneOf [] text = ⊥
IsOneOf (word ∷ words) text = (text ≡ word) ⊎ IsOneOf words text

-- sign ::= '+' | '-'
abbrev pub is_sign : ℕ → Bool
is_sign byte = byte == 43 || byte == 45

-- number ::= (digit+ ('.' digit*)? | '.' digit+) ([eE] sign? digit+)?
-- digit ::= [0-9]
abbrev pub IsUnsigned : List ℕ → Type 0
IsUnsigned text = IsAnyNumber text × (is_sign (slice_index text 0) ≡ false)

-- unit ::= 'ms' | 's' | 'm' | 'h' | 'd' | 'w' | 'y' | 'i'
abbrev pub units : List (List ℕ)
units =
    codes "ms" ∷ codes "s" ∷ codes "m" ∷ codes "h" ∷ codes "d" ∷ codes "w" ∷ codes "y" ∷ codes "i"
    ∷ []

-- count ::= digit+ unit
pub record IsCount (text : List ℕ) : Type 0 where
  pub digits : List ℕ
  pub unit : List ℕ
  pub parts : text ≡ digits ++ unit
  pub some : 0 < length digits
  pub are : IsDigits digits
  pub a_unit : IsOneOf units unit

-- duration ::= count+
pub data IsDuration : List ℕ → Type 0 where
  one_count : {text : List ℕ} → IsCount text → IsDuration text
  more_counts : {front rest : List ℕ} → IsCount front → IsDuration rest → IsDuration (front ++ rest)

-- `"` or `'`
abbrev pub is_quote : ℕ → Bool
is_quote byte = byte == 34 || byte == 39

-- escape ::= '\' | '"' | "'" | 'n' | 't', after a backslash
abbrev pub is_escape : ℕ → Bool
is_escape byte = byte == 92 || byte == 34 || byte == 39 || byte == 110 || byte == 116

-- Whether a text may stand between two such quotes. It has the quote only after a backslash.
-- `escaped` says whether a backslash stands before the text.
abbrev pub is_inner : ℕ → Bool → List ℕ → Bool
is_inner quote escaped [] = not escaped
is_inner quote true (byte ∷ more) = is_escape byte && is_inner quote false more
is_inner quote false (byte ∷ more) = not (byte == quote) && is_inner quote (byte == 92) more

-- string ::= '"' ([^"\] | '\' escape)* '"' | "'" ([^'\] | '\' escape)* "'"
pub record IsQuoted (text : List ℕ) : Type 0 where
  pub quote : ℕ
  pub inner : List ℕ
  pub parts : text ≡ quote ∷ (inner ++ quote ∷ [])
  pub a_quote : is_quote quote ≡ true
  pub between : is_inner quote false inner ≡ true

-- mark ::= '(' | ')' | '{' | '}' | '[' | ']' | ',' | '=' | '=~' | '!~' | '==' | '!=' | '<=' | '>='
--     | '<' | '>' | '+' | '-' | '*' | '/' | '%'
abbrev pub marks : List (List ℕ)
marks =
    codes "(" ∷ codes ")" ∷ codes "{" ∷ codes "}" ∷ codes "[" ∷ codes "]" ∷ codes "," ∷ codes "="
    ∷ codes "=~" ∷ codes "!~" ∷ codes "==" ∷ codes "!=" ∷ codes "<=" ∷ codes ">=" ∷ codes "<"
    ∷ codes ">" ∷ codes "+" ∷ codes "-" ∷ codes "*" ∷ codes "/" ∷ codes "%" ∷ []

-- token ::= name | number | duration | string | mark
-- name ::= [A-Za-z_:] [A-Za-z0-9_:]*, also a reserved word
abbrev pub IsToken : TokenKind → List ℕ → Type 0
IsToken Name text = is_name text ≡ true
IsToken Number text = IsUnsigned text
IsToken Duration text = IsDuration text
IsToken Str text = IsQuoted text
IsToken Mark text = IsOneOf marks text

-- blank ::= #x20 | #x9 | #xD | #xA: a space, a tab, a carriage return or a line feed
abbrev pub is_blank : ℕ → Bool
is_blank byte = byte == 32 || byte == 9 || byte == 13 || byte == 10

-- comment ::= '#' [^#xA]*
pub record IsComment (text : List ℕ) : Type 0 where
  pub line : List ℕ
  pub parts : text ≡ 35 ∷ line
  pub one_line : list_all (λ byte. not (byte == 10)) line ≡ true

-- gap ::= blank+ | comment
abbrev pub IsGap : List ℕ → Type 0
IsGap text = ((0 < length text) × (list_all is_blank text ≡ true)) ⊎ IsComment text

-- piece ::= token | gap
abbrev pub IsPiece : Piece → List ℕ → Type 0
IsPiece (Token kind) text = IsToken kind text
IsPiece Gap text = IsGap text

-- a letter, a digit or `_`
abbrev pub is_word_byte : ℕ → Bool
is_word_byte byte = is_ascii_alphabetic byte || is_ascii_digit byte || byte == 95

-- whether a piece may stand right before this text: a number or a duration not before a letter, a
-- digit or `_`
abbrev pub may_end : Piece → List ℕ → Bool
may_end (Token Number) more = not (is_word_byte (slice_index more 0))
may_end (Token Duration) more = not (is_word_byte (slice_index more 0))
may_end _ more = true
