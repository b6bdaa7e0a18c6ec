-- The canonical text of a query: its words, and the blanks between them.
use Rattle.std.specs.Prelude.{ℕ, suc, ◌==◌, nat_lt, Bool, List, [], ◌∷◌, ◌++◌, map, flat_map, Option, Some, None, codes, if◌then◌else◌}
use Rattle.std.specs.Option.{option_map_or}
use Rattle.mql_lex.specs.declared.group.Group.{Group}
use Rattle.mql_lex.specs.declared.group.Matching.{Matching}
use Rattle.mql_lex.specs.declared.group.MatchKind.{MatchKind}
use Rattle.mql_lex.specs.declared.group.MatchKind.TheVariants.{All, On, Ignoring}
use Rattle.mql_lex.specs.declared.group.Many.{Many}
use Rattle.mql_lex.specs.declared.group.Many.TheVariants.{One, Left, Right}
use Rattle.mql_lex.specs.declared.operator.Op.{Op}
use Rattle.mql_lex.specs.declared.operator.Op.TheVariants.{Default, If, IfNot, Or, And, Unless, Equal, Differs, AtMost, AtLeast, Below, Above, Add, Sub, Mul, Div, Rem}
use Rattle.mql_lex.specs.declared.span.Span.{Span}
use Rattle.mql_lex.specs.declared.token.TokenKind.{TokenKind}
use Rattle.mql_lex.specs.declared.token.TokenKind.TheVariants.{Name, Number, Duration, Str, Mark}
use Rattle.vm_decimal.specs.NumberText.{number_text}
use Rattle.vm_labels.specs.Text.{escaped_byte}
use Rattle.vm_labels.specs.declared.selector.FilterOp.{FilterOp}
use Rattle.vm_labels.specs.declared.selector.FilterOp.TheVariants.{Matches, MatchesNot, Equal as EqualTo, Differs as DiffersFrom}
use Rattle.mql_expr.specs.Levels.{level_of, level_of_op}
use Rattle.mql_expr.specs.Names.{known_as, name_of}
use Rattle.mql_expr.specs.Spans.{is_negative, span_text}
use Rattle.mql_expr.specs.Tree.{Tree, Trees, Templates, number, string, select, ranged, call, binary, negate, with_templates, no_trees, next_tree, no_templates, next_template}
use Rattle.mql_expr.specs.declared.expr.Param.{Param}
use Rattle.mql_expr.specs.declared.item.Item.{Item}
use Rattle.mql_expr.specs.declared.item.Item.TheVariants.{Is, Named}

-- a blank, or a word with the kind of token that it is
pub data Piece : Type 0 where
  blank : Piece
  word : TokenKind → List ℕ → Piece

-- the text of a piece
abbrev pub piece_text : Piece → List ℕ
piece_text blank = codes " "
piece_text (word kind text) = text

-- the text of pieces, one after the other
abbrev pub text_of : List Piece → List ℕ
text_of pieces = flat_map piece_text pieces

-- a mark
abbrev pub mark : List ℕ → Piece
mark text = word Mark text

-- a name or a word of the language
abbrev pub named : List ℕ → Piece
named text = word Name text

-- these pieces where the condition holds, else none
abbrev pub when : Bool → List Piece → List Piece
when b pieces = if b then pieces else []

-- these one after the other, with something between two
abbrev pub parted : List Piece → List (List Piece) → List Piece
parted between [] = []
parted between (x ∷ xs) = x ++ flat_map (λ y. between ++ y) xs

-- names, parted by commas
abbrev pub parted_names : List (List ℕ) → List Piece
parted_names names = parted (mark (codes ",") ∷ []) (map (λ name. named name ∷ []) names)

-- names in parentheses, parted by commas
abbrev pub names_pieces : List (List ℕ) → List Piece
names_pieces names = mark (codes "(") ∷ parted_names names ++ mark (codes ")") ∷ []

-- a text in quotes
abbrev pub string_text : List ℕ → List ℕ
string_text text = codes "\"" ++ flat_map escaped_byte text ++ codes "\""

-- ---- selectors

-- the operator of a filter
abbrev pub filter_op_text : FilterOp → List ℕ
filter_op_text EqualTo = codes "="
filter_op_text DiffersFrom = codes "!="
filter_op_text Matches = codes "=~"
filter_op_text MatchesNot = codes "!~"

-- an item in braces
abbrev pub item_pieces : Item → List Piece
item_pieces (Is filter) =
    named filter.name ∷ mark (filter_op_text filter.op) ∷ word Str (string_text filter.value) ∷ []
item_pieces (Named at name) = named name ∷ []

-- the items of a list, parted by commas
abbrev pub list_pieces : List Item → List Piece
list_pieces items = parted (mark (codes ",") ∷ []) (map item_pieces items)

-- the braces, which a name without them lacks
abbrev pub braces_pieces : List (List Item) → List Piece
braces_pieces [] = []
braces_pieces (items ∷ lists) =
    mark (codes "{")
    ∷ parted (blank ∷ named (codes "or") ∷ blank ∷ []) (map list_pieces (items ∷ lists))
    ++ mark (codes "}") ∷ []

-- a selector: its name, where it has one, and its braces
abbrev pub select_pieces : Option (List ℕ) → List (List Item) → List Piece
select_pieces name lists = option_map_or (λ text. named text ∷ []) name [] ++ braces_pieces lists

-- ---- windows and offsets

-- a span, with `-` in front where it is below zero
abbrev pub span_pieces : Span → List Piece
span_pieces span =
    when (is_negative span) (mark (codes "-") ∷ []) ++ word Duration (span_text span) ∷ []

-- a window in brackets, where there is one
abbrev pub window_pieces : Option Span → List Piece
window_pieces None = []
window_pieces (Some span) = mark (codes "[") ∷ span_pieces span ++ mark (codes "]") ∷ []

-- `offset` and its span, where there is one
abbrev pub offset_pieces : Option Span → List Piece
offset_pieces None = []
offset_pieces (Some span) = blank ∷ named (codes "offset") ∷ blank ∷ span_pieces span

-- ---- calls

-- Names of functions and aggregates are in lower case, others as they are written.
abbrev pub call_name : List ℕ → List ℕ
call_name name = option_map_or name_of (known_as name) name

-- `by` or `without` and the names
abbrev pub group_pieces : Group → List Piece
group_pieces group =
    named (if group.by then codes "by" else codes "without") ∷ blank ∷ names_pieces group.names

-- what stands between the name and the arguments: the first of two groups
abbrev pub before_pieces : (before after : Option Group) → List Piece
before_pieces (Some group) (Some other) = blank ∷ group_pieces group ++ blank ∷ []
before_pieces before after = []

-- what stands after the arguments: the only group, or the second
abbrev pub after_pieces : (before after : Option Group) → List Piece
after_pieces None None = []
after_pieces (Some group) None = blank ∷ group_pieces group
after_pieces before (Some group) = blank ∷ group_pieces group

-- `keep_metric_names`, where it is written
abbrev pub keep_pieces : Bool → List Piece
keep_pieces keep = when keep (blank ∷ named (codes "keep_metric_names") ∷ [])

-- ---- operators

-- the word or the mark of an operator
abbrev pub op_piece : Op → Piece
op_piece Default = named (codes "default")
op_piece If = named (codes "if")
op_piece IfNot = named (codes "ifnot")
op_piece Or = named (codes "or")
op_piece And = named (codes "and")
op_piece Unless = named (codes "unless")
op_piece Equal = mark (codes "==")
op_piece Differs = mark (codes "!=")
op_piece AtMost = mark (codes "<=")
op_piece AtLeast = mark (codes ">=")
op_piece Below = mark (codes "<")
op_piece Above = mark (codes ">")
op_piece Add = mark (codes "+")
op_piece Sub = mark (codes "-")
op_piece Mul = mark (codes "*")
op_piece Div = mark (codes "/")
op_piece Rem = mark (codes "%")

-- `bool`, where it is written
abbrev pub truth_pieces : Bool → List Piece
truth_pieces truth = when truth (blank ∷ named (codes "bool") ∷ [])

-- a word and names in parentheses after it
abbrev pub modifier : List ℕ → List (List ℕ) → List Piece
modifier text names = blank ∷ named text ∷ names_pieces names

-- `on` or `ignoring` and the names, where one is written
abbrev pub kind_pieces : MatchKind → List (List ℕ) → List Piece
kind_pieces All names = []
kind_pieces On names = modifier (codes "on") names
kind_pieces Ignoring names = modifier (codes "ignoring") names

-- `group_left` or `group_right` and the names, where one is written
abbrev pub many_pieces : Many → List (List ℕ) → List Piece
many_pieces One names = []
many_pieces Left names = modifier (codes "group_left") names
many_pieces Right names = modifier (codes "group_right") names

-- both of these
abbrev pub matching_pieces : Matching → List Piece
matching_pieces m = kind_pieces m.kind m.names ++ many_pieces m.many m.extra

-- what stands between two operands, with the blanks round it
abbrev pub operator_pieces : Op → Bool → Matching → List Piece
operator_pieces op truth matching =
    blank ∷ op_piece op ∷ truth_pieces truth ++ matching_pieces matching ++ blank ∷ []

-- ---- expressions

-- the parameters of a template in parentheses, where it has any
abbrev pub params_pieces : List Param → List Piece
params_pieces [] = []
params_pieces (param ∷ params) =
    mark (codes "(")
    ∷ parted (mark (codes ",") ∷ []) (map (λ p. named p.name ∷ []) (param ∷ params))
    ++ mark (codes ")") ∷ []

-- arguments or templates
abbrev pub in_parentheses : List (List Piece) → List Piece
in_parentheses parts =
    mark (codes "(") ∷ parted (mark (codes ",") ∷ blank ∷ []) parts ++ mark (codes ")") ∷ []

-- what parts one of these from the one before it
abbrev pub comma_before : (index : ℕ) → List ℕ
comma_before index = if index == 0 then [] else codes ", "

-- A part stands in parentheses where it binds less closely than its place wants.
abbrev pub operand : (least level : ℕ) → List Piece → List Piece
operand least level pieces =
    if nat_lt level least then mark (codes "(") ∷ pieces ++ mark (codes ")") ∷ [] else pieces

-- `name(params) = body`
abbrev pub binding : List ℕ → List Param → (body : List Piece) → List Piece
binding name params body =
    named name ∷ params_pieces params ++ blank ∷ mark (codes "=") ∷ blank ∷ body

abbrev mutual
  -- the pieces of a query
  pub pieces : Tree → List Piece
  pieces (number at z) = word Number (number_text z) ∷ []
  pieces (string at text) = word Str (string_text text) ∷ []
  pieces (select at name lists) = select_pieces name lists
  pieces (ranged at inner window offset) =
      operand 10 (level_of inner) (pieces inner) ++ window_pieces window ++ offset_pieces offset
  pieces (call at name args before after keep) =
      named (call_name name) ∷ before_pieces before after ++ in_parentheses (arguments args)
      ++ after_pieces before after ++ keep_pieces keep
  pieces (binary at op truth matching left right) =
      operand (level_of_op op) (level_of left) (pieces left)
      ++ operator_pieces op truth matching
      ++ operand (suc (level_of_op op)) (level_of right) (pieces right)
  pieces (negate at inner) = mark (codes "-") ∷ operand 9 (level_of inner) (pieces inner)
  pieces (with_templates at templates body) =
      named (codes "WITH") ∷ blank ∷ in_parentheses (bindings templates)
      ++ blank ∷ operand 1 (level_of body) (pieces body)

  -- the arguments of a call, each for itself
  pub arguments : Trees → List (List Piece)
  arguments no_trees = []
  arguments (next_tree tree trees) = operand 1 (level_of tree) (pieces tree) ∷ arguments trees

  -- the templates of a WITH, each for itself
  pub bindings : Templates → List (List Piece)
  bindings no_templates = []
  bindings (next_template at name params body templates) =
      binding name params (operand 1 (level_of body) (pieces body)) ∷ bindings templates

-- a tree in its place
abbrev pub placed : (least : ℕ) → Tree → List Piece
placed least tree = operand least (level_of tree) (pieces tree)

-- the canonical text of a query
abbrev pub canonical : Tree → List ℕ
canonical tree = text_of (pieces tree)
