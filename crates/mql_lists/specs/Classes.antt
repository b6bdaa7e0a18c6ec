-- What a word is to the language. (MetricsQL; PromQL, "Operators" and "Vector matching")
use Rattle.std.specs.Prelude.{ℕ, Bool, true, false, List, [], ◌∷◌, Option, Some, None, codes, bytes_eq, if◌then◌else◌}
use Rattle.std.specs.Str.{str_eq_ignore_ascii_case}
use Rattle.mql_lex.specs.declared.token.TokenKind.{TokenKind}
use Rattle.mql_lex.specs.declared.token.TokenKind.TheVariants.{Name, Number, Duration, Str, Mark}
use Rattle.mql_lex.specs.declared.operator.Op.TheVariants.{Default, If, IfNot, Or, And, Unless, Equal, Differs, AtMost, AtLeast, Below, Above, Add, Sub, Mul, Div, Rem}
use Rattle.mql_lex.specs.declared.group.MatchKind.TheVariants.{On, Ignoring}
use Rattle.mql_lex.specs.declared.group.Many.TheVariants.{Left, Right}
use Rattle.vm_labels.specs.declared.selector.FilterOp.{FilterOp}
use Rattle.vm_labels.specs.declared.selector.FilterOp.TheVariants.{Matches, MatchesNot, Equal as EqualTo, Differs as DiffersFrom}
use Rattle.mql_lists.specs.Words.{Word}
use Rattle.mql_lists.specs.declared.class.Class.{Class}
use Rattle.mql_lists.specs.declared.class.Class.TheVariants.{Identifier, Numeral, Time, Quoted, Operator, Assign, Like, Unlike, Comma, OpenRound, CloseRound, OpenCurly, CloseCurly, OpenSquare, CloseSquare, Grouping, Pairing, Joining, Truth, Offset, With, Keep, Strange}

-- reserved ::= 'default' | 'if' | 'ifnot' | 'or' | 'and' | 'unless' | 'bool' | 'on' | 'ignoring'
--     | 'group_left' | 'group_right' | 'offset' | 'with' | 'by' | 'without' | 'keep_metric_names'
abbrev pub reserved_words : List (List ℕ × Class)
reserved_words =
    (codes "default", Operator Default) ∷ (codes "if", Operator If)
    ∷ (codes "ifnot", Operator IfNot) ∷ (codes "or", Operator Or) ∷ (codes "and", Operator And)
    ∷ (codes "unless", Operator Unless) ∷ (codes "bool", Truth) ∷ (codes "on", Pairing On)
    ∷ (codes "ignoring", Pairing Ignoring) ∷ (codes "group_left", Joining Left)
    ∷ (codes "group_right", Joining Right) ∷ (codes "offset", Offset) ∷ (codes "with", With)
    ∷ (codes "by", Grouping true) ∷ (codes "without", Grouping false)
    ∷ (codes "keep_metric_names", Keep) ∷ []

-- the marks
abbrev pub mark_words : List (List ℕ × Class)
mark_words =
    (codes "(", OpenRound) ∷ (codes ")", CloseRound) ∷ (codes "{", OpenCurly)
    ∷ (codes "}", CloseCurly) ∷ (codes "[", OpenSquare) ∷ (codes "]", CloseSquare)
    ∷ (codes ",", Comma) ∷ (codes "=", Assign) ∷ (codes "=~", Like) ∷ (codes "!~", Unlike)
    ∷ (codes "==", Operator Equal) ∷ (codes "!=", Operator Differs)
    ∷ (codes "<=", Operator AtMost) ∷ (codes ">=", Operator AtLeast)
    ∷ (codes "<", Operator Below) ∷ (codes ">", Operator Above) ∷ (codes "+", Operator Add)
    ∷ (codes "-", Operator Sub) ∷ (codes "*", Operator Mul) ∷ (codes "/", Operator Div)
    ∷ (codes "%", Operator Rem) ∷ []

-- the class of the first row whose word passes a test, or another
abbrev pub class_in : List (List ℕ × Class) → (List ℕ → Bool) → Class → Class
class_in [] is other = other
class_in (row ∷ rows) is other = if is row.0 then row.1 else class_in rows is other

-- the class of a name: identifier ::= name - reserved, without regard to ASCII case
unfoldable pub class_of_name : List ℕ → Class
class_of_name text = class_in reserved_words (str_eq_ignore_ascii_case text) Identifier

-- the class of a mark
unfoldable pub class_of_mark : List ℕ → Class
class_of_mark text = class_in mark_words (bytes_eq text) Strange

-- the class of a token of this kind and this text
abbrev pub class_of_kind : TokenKind → List ℕ → Class
class_of_kind Name text = class_of_name text
class_of_kind Number text = Numeral
class_of_kind Duration text = Time
class_of_kind Str text = Quoted
class_of_kind Mark text = class_of_mark text

-- the class of a word
abbrev pub class_of_word : Word → Class
class_of_word word = class_of_kind word.kind word.text

-- the operator of a filter that a word of this class is
abbrev pub filter_op : Class → Option FilterOp
filter_op Assign = Some EqualTo
filter_op (Operator Differs) = Some DiffersFrom
filter_op Like = Some Matches
filter_op Unlike = Some MatchesNot
filter_op _ = None
