-- The parts of a query that do not nest. (MetricsQL; PromQL, "Aggregation operators", "Vector
-- matching" and "Instant vector selectors")
--
-- Most words here say what stands at the front of some words, with the bracket that closes it, and
-- hand on the rest, which follows it.
use Rattle.std.specs.Prelude.{◌≡◌, ℕ, List, [], ◌∷◌, Some}
use Rattle.mql_lex.specs.declared.token.TokenKind.TheVariants.{Name}
use Rattle.mql_lex.specs.declared.operator.Op.TheVariants.{Or}
use Rattle.mql_expr.specs.declared.item.Item.{Item}
use Rattle.mql_expr.specs.declared.item.Item.TheVariants.{Is, Named}
use Rattle.mql_expr.specs.declared.expr.Param.{Param}
use Rattle.vm_labels.specs.declared.selector.FilterOp.{FilterOp}
use Rattle.mql_lists.specs.Words.{Word}
use Rattle.mql_lists.specs.Classes.{class_of_word, filter_op}
use Rattle.mql_lists.specs.Values.{value_of}
use Rattle.mql_lists.specs.declared.class.Class.{Class}
use Rattle.mql_lists.specs.declared.class.Class.TheVariants.{Identifier, Quoted, Operator, Comma, CloseRound, CloseCurly}

-- a word of this class
abbrev pub IsA : Class → Word → Type 0
IsA class word = class_of_word word ≡ class

-- a name, also a reserved word: what a label may be called
abbrev pub IsLabel : Word → Type 0
IsLabel word = word.kind ≡ Name

-- filter_op ::= '=' | '!=' | '=~' | '!~'
abbrev pub Compares : FilterOp → Word → Type 0
Compares op word = filter_op (class_of_word word) ≡ Some op

-- ---- names

-- names ::= (name (',' name)* ','?)?, with the ')' that follows
pub data Names : List Word → List Word → List (List ℕ) → Type 0 where
  no_names : {rest : List Word} (close : Word) → IsA CloseRound close
      → Names (close ∷ rest) rest []
  last_name : {rest : List Word} (name close : Word) → IsLabel name → IsA CloseRound close
      → Names (name ∷ close ∷ rest) rest (name.text ∷ [])
  next_name : {text rest : List Word} {names : List (List ℕ)} (name comma : Word) → IsLabel name
      → IsA Comma comma → Names text rest names
      → Names (name ∷ comma ∷ text) rest (name.text ∷ names)

-- ---- parameters

-- a name at its place
abbrev pub param : Word → Param
param name = record { at = name.at; name = name.text }

-- one parameter or more, with the ')' that follows
pub data SomeParams : List Word → List Word → List Param → Type 0 where
  last_param : {rest : List Word} (name close : Word) → IsA Identifier name → IsA CloseRound close
      → SomeParams (name ∷ close ∷ rest) rest (param name ∷ [])
  next_param : {text rest : List Word} {params : List Param} (name comma : Word)
      → IsA Identifier name → IsA Comma comma → SomeParams text rest params
      → SomeParams (name ∷ comma ∷ text) rest (param name ∷ params)

-- params ::= (identifier (',' identifier)*)?, with the ')' that follows
pub data Params : List Word → List Word → List Param → Type 0 where
  no_params : {rest : List Word} (close : Word) → IsA CloseRound close
      → Params (close ∷ rest) rest []
  some_params : {text rest : List Word} {params : List Param} → SomeParams text rest params
      → Params text rest params

-- ---- braces

-- item ::= name filter_op string | identifier
pub data OneItem : List Word → List Word → Item → Type 0 where
  a_filter : {rest : List Word} {op : FilterOp} (name sign value : Word) → IsLabel name
      → Compares op sign → IsA Quoted value
      → OneItem (name ∷ sign ∷ value ∷ rest) rest
      (Is (record { name = name.text; op = op; value = value_of value.text }))
  a_name : {rest : List Word} (name : Word) → IsA Identifier name
      → OneItem (name ∷ rest) rest (Named name.at name.text)

-- list ::= item (',' item)* ','?
pub data OneList : List Word → List Word → List Item → Type 0 where
  last_item : {text rest : List Word} {item : Item} → OneItem text rest item
      → OneList text rest (item ∷ [])
  last_comma : {text rest : List Word} {item : Item} (comma : Word) → IsA Comma comma
      → OneItem text (comma ∷ rest) item → OneList text rest (item ∷ [])
  next_item : {text more rest : List Word} {item : Item} {items : List Item} (comma : Word)
      → IsA Comma comma → OneItem text (comma ∷ more) item → OneList more rest items
      → OneList text rest (item ∷ items)

-- one list or more, with the '}' that follows
pub data SomeLists : List Word → List Word → List (List Item) → Type 0 where
  last_list : {text rest : List Word} {items : List Item} (close : Word) → IsA CloseCurly close
      → OneList text (close ∷ rest) items → SomeLists text rest (items ∷ [])
  next_list : {text more rest : List Word} {items : List Item} {lists : List (List Item)}
      (between : Word) → IsA (Operator Or) between → OneList text (between ∷ more) items
      → SomeLists more rest lists → SomeLists text rest (items ∷ lists)

-- lists ::= (list ('or' list)*)?, with the '}' that follows; 'or' without regard to ASCII case
-- Empty braces are one empty list.
pub data Braces : List Word → List Word → List (List Item) → Type 0 where
  no_items : {rest : List Word} (close : Word) → IsA CloseCurly close
      → Braces (close ∷ rest) rest ([] ∷ [])
  some_lists : {text rest : List Word} {lists : List (List Item)} → SomeLists text rest lists
      → Braces text rest lists
