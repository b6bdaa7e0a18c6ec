-- What is printed is read back as the same query.
use Rattle.std.specs.Prelude.{◌≡◌, ◌⊎◌, ℕ, true, List, [], length, map, Option, Some, None, ⊤}
use Rattle.std.specs.List.{AllByRecursion}
use Rattle.mql_lex.specs.Tokens.{AreTokens}
use Rattle.mql_lex.specs.declared.group.Group.{Group}
use Rattle.mql_lex.specs.declared.group.Many.{Many}
use Rattle.mql_lex.specs.declared.group.Many.TheVariants.{One}
use Rattle.mql_lex.specs.declared.group.MatchKind.{MatchKind}
use Rattle.mql_lex.specs.declared.group.MatchKind.TheVariants.{All}
use Rattle.mql_lex.specs.declared.span.Span.{Span}
use Rattle.mql_lex.specs.declared.token.Token.{Token}
use Rattle.mql_expr.specs.Canonical.{canonical, call_name}
use Rattle.mql_laws.specs.Lexed.{IsPrinted}
use Rattle.mql_expr.specs.Tree.{Tree, Trees, Templates, number, string, select, ranged, call, binary, negate, with_templates, no_trees, next_tree, no_templates, next_template}
use Rattle.mql_expr.specs.declared.expr.Param.{Param}
use Rattle.mql_expr.specs.declared.item.Item.{Item}
use Rattle.mql_expr.specs.declared.item.Item.TheVariants.{Is, Named}
use Rattle.mql_lists.specs.Classes.{class_of_name}
use Rattle.mql_lists.specs.Words.{Word, words_of}
use Rattle.mql_lists.specs.declared.class.Class.TheVariants.{Identifier}
use Rattle.mql_parse.specs.Faults.{IsUnexpected, IsBeyond}
use Rattle.mql_parse.specs.Grammar.{Spells, is_comparison}
use Rattle.mql_parse.specs.Values.{Length, is_short, ahead, back}

-- ---- the same query

-- an item with zero for its place
abbrev pub placeless_item : Item → Item
placeless_item (Is filter) = Is filter
placeless_item (Named at name) = Named 0 name

-- a parameter with zero for its place
abbrev pub placeless_param : Param → Param
placeless_param param = record { at = 0; name = param.name }

-- the groups on the two sides of a call's arguments, where an only group stands after them
abbrev pub first_group : (before after : Option Group) → Option Group
first_group (Some group) (Some other) = Some group
first_group before after = None

abbrev pub last_group : (before after : Option Group) → Option Group
last_group (Some group) None = Some group
last_group before after = after

abbrev mutual
  -- A query with zeros for all places. An only group stands after the arguments. The names of
  -- functions and aggregates are in lower case.
  pub placeless : Tree → Tree
  placeless (number at z) = number 0 z
  placeless (string at text) = string 0 text
  placeless (select at name lists) = select 0 name (map (map placeless_item) lists)
  placeless (ranged at inner window offset) = ranged 0 (placeless inner) window offset
  placeless (call at name args before after keep) =
      call 0 (call_name name) (placeless_trees args) (first_group before after)
      (last_group before after) keep
  placeless (binary at op truth matching left right) =
      binary 0 op truth matching (placeless left) (placeless right)
  placeless (negate at inner) = negate 0 (placeless inner)
  placeless (with_templates at templates body) =
      with_templates 0 (placeless_templates templates) (placeless body)

  -- the same of arguments
  pub placeless_trees : Trees → Trees
  placeless_trees no_trees = no_trees
  placeless_trees (next_tree tree trees) = next_tree (placeless tree) (placeless_trees trees)

  -- the same of templates
  pub placeless_templates : Templates → Templates
  placeless_templates no_templates = no_templates
  placeless_templates (next_template at name params body more) =
      next_template 0 name (map placeless_param params) (placeless body) (placeless_templates more)

-- the same but for places, for the side of a call's only group, and for the case of the names of
-- functions and aggregates
abbrev pub Same : Tree → Tree → Type 0
Same t u = placeless t ≡ placeless u

-- ---- which trees a text can say

-- no reserved word
abbrev pub IsFree : List ℕ → Type 0
IsFree name = class_of_name name ≡ Identifier

-- no name, or one that is no reserved word
abbrev pub IsFreeIfAny : Option (List ℕ) → Type 0
IsFreeIfAny None = ⊤
IsFreeIfAny (Some name) = IsFree name

-- A filter may be of a label that is named by a reserved word.
abbrev pub IsFreeItem : Item → Type 0
IsFreeItem (Is filter) = ⊤
IsFreeItem (Named at name) = IsFree name

-- a span as a duration says it, ahead or back
abbrev pub IsAhead : Span → Type 0
IsAhead span = (l : Length) × (is_short l ≡ true) × (span ≡ ahead l)

abbrev pub IsBack : Span → Type 0
IsBack span = (l : Length) × (is_short l ≡ true) × (span ≡ back l)

-- A window is ahead. One of the two is there.
abbrev pub IsRange : (window offset : Option Span) → Type 0
IsRange None None = ⊥
IsRange None (Some offset) = IsAhead offset ⊎ IsBack offset
IsRange (Some window) None = IsAhead window
IsRange (Some window) (Some offset) = IsAhead window × (IsAhead offset ⊎ IsBack offset)

-- There are names where there is a word for them.
abbrev pub IsMany : Many → (extra : List (List ℕ)) → Type 0
IsMany One extra = extra ≡ []
IsMany many extra = ⊤

-- Without `on` or `ignoring` no other modifier stands.
abbrev pub IsMatching : MatchKind → (names : List (List ℕ)) → Many → (extra : List (List ℕ))
    → Type 0
IsMatching All names many extra = (names ≡ []) × (many ≡ One) × (extra ≡ [])
IsMatching kind names many extra = IsMany many extra

abbrev mutual
  -- a tree whose parts all meet these conditions
  pub IsSaid : Tree → Type 0
  IsSaid (number at z) = ⊤
  IsSaid (string at text) = ⊤
  IsSaid (select at name lists) = IsFreeIfAny name
      × AllByRecursion (AllByRecursion IsFreeItem) lists
  IsSaid (ranged at inner window offset) = IsSaid inner × IsRange window offset
  IsSaid (call at name args before after keep) = IsFree name × AreSaid args
  IsSaid (binary at op truth matching left right) =
      IsSaid left × IsSaid right × (truth ≡ true → is_comparison op ≡ true)
      × IsMatching matching.kind matching.names matching.many matching.extra
  IsSaid (negate at inner) = IsSaid inner
  IsSaid (with_templates at templates body) = AreSaidBindings templates × IsSaid body

  -- such trees as arguments
  pub AreSaid : Trees → Type 0
  AreSaid no_trees = ⊤
  AreSaid (next_tree tree trees) = IsSaid tree × AreSaid trees

  -- templates whose names are no reserved words and whose bodies are such trees
  pub AreSaidBindings : Templates → Type 0
  AreSaidBindings no_templates = ⊤
  AreSaidBindings (next_template at name params body more) =
      IsFree name × AllByRecursion (λ p. IsFree p.name) params × IsSaid body × AreSaidBindings more

-- ---- the law

-- The words are the query. Whatever limits bind, they are no other. No word is unexpected and no
-- number is out of its limits, so only the limit on depth may refuse them.
pub record ReadsBack (t : Tree) (words : List Word) : Type 0 where
  pub tree : Tree
  pub same : Same tree t
  pub spells : Spells 0 words tree
  pub only : (len : ℕ) (u : Tree) → Spells len words u → u ≡ tree
  pub expected : (len at : ℕ) → IsUnexpected len words at → ⊥
  pub fits : (len at : ℕ) → IsBeyond true len words at → ⊥

-- the tokens of a tree's canonical text are the same query
abbrev pub IsReadBack : Tree → Type 0
IsReadBack t = (tokens : List Token) × AreTokens (canonical t) tokens
    × ReadsBack t (words_of (canonical t) tokens)

-- What a text says is read back.
abbrev pub PrintedIsRead : Type 0
PrintedIsRead =
    (text : List ℕ) (tokens : List Token) (t : Tree) → AreTokens text tokens
    → Spells (length text) (words_of text tokens) t → IsReadBack t

-- So is each tree of these conditions, as what a text says is one.
abbrev pub SaidIsRead : Type 0
SaidIsRead = (t : Tree) → IsPrinted t → IsSaid t → IsReadBack t

-- What a text says is a tree of these conditions.
abbrev pub TextIsSaid : Type 0
TextIsSaid =
    (text : List ℕ) (tokens : List Token) (t : Tree) → AreTokens text tokens
    → Spells (length text) (words_of text tokens) t → IsPrinted t × IsSaid t

-- The same query has the same canonical text.
abbrev pub SameText : Type 0
SameText = (t u : Tree) → Same t u → canonical t ≡ canonical u

-- Of the trees that meet these conditions no other has it.
abbrev pub OneQuery : Type 0
OneQuery =
    (t u : Tree) → IsPrinted t → IsSaid t → IsPrinted u → IsSaid u → canonical t ≡ canonical u
    → Same t u
