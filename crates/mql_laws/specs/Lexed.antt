-- The words of pieces as tokens of their text.
use Rattle.std.specs.Prelude.{◌≡◌, ℕ, ◌^◌, ◌<◌, ℤ, unsigned_abs, true, false, List, [], ◌∷◌, map, Option, Some, None, ⊤}
use Rattle.std.specs.List.{AllByRecursion}
use Rattle.vm_base.specs.Number.{form_of}
use Rattle.vm_decimal.specs.Dec.{is_dec}
use Rattle.vm_labels.specs.Name.{is_name}
use Rattle.mql_lex.specs.Tokens.{AreTokens, slice_of}
use Rattle.mql_lex.specs.declared.group.Group.{Group}
use Rattle.mql_lex.specs.declared.span.Span.{Span}
use Rattle.mql_lex.specs.declared.token.Token.{Token}
use Rattle.mql_lex.specs.declared.token.TokenKind.{TokenKind}
use Rattle.mql_expr.specs.Canonical.{Piece, blank, word, text_of, pieces}
use Rattle.mql_expr.specs.Tree.{Tree, Trees, Templates, number, string, select, ranged, call, binary, negate, with_templates, no_trees, next_tree, no_templates, next_template}
use Rattle.mql_expr.specs.declared.expr.Param.{Param}
use Rattle.mql_expr.specs.declared.item.Item.{Item}
use Rattle.mql_expr.specs.declared.item.Item.TheVariants.{Is, Named}

-- the pieces that are no blanks, each as what it is and how it is spelled
abbrev pub words : List Piece → List (TokenKind × List ℕ)
words [] = []
words (blank ∷ more) = words more
words (word kind text ∷ more) = (kind, text) ∷ words more

-- a token of a text likewise
abbrev pub spelled : List ℕ → Token → TokenKind × List ℕ
spelled text token = (token.kind, slice_of text token)

-- these tokens, and no others, stand in the text of the pieces, and are their words
pub record AreWords (all : List Piece) (tokens : List Token) : Type 0 where
  pub tokens_are : AreTokens (text_of all) tokens
  pub words_are : map (spelled (text_of all)) tokens ≡ words all

-- ---- which trees print as their words

-- a text that is a name
abbrev pub IsName : List ℕ → Type 0
IsName text = is_name text ≡ true

-- texts that are names
abbrev pub AreNames : List (List ℕ) → Type 0
AreNames = AllByRecursion IsName

-- an item whose name is a name
abbrev pub IsItem : Item → Type 0
IsItem (Is filter) = IsName filter.name
IsItem (Named at name) = IsName name

-- a list that isn't empty, of such items
abbrev pub HasItems : List Item → Type 0
HasItems [] = ⊥
HasItems (item ∷ items) = AllByRecursion IsItem (item ∷ items)

-- Of several lists none is empty.
abbrev pub AreLists : List (List Item) → Type 0
AreLists [] = ⊤
AreLists (items ∷ []) = AllByRecursion IsItem items
AreLists (items ∷ other ∷ lists) = AllByRecursion HasItems (items ∷ other ∷ lists)

-- A selector has a name or braces.
abbrev pub IsSelect : Option (List ℕ) → List (List Item) → Type 0
IsSelect None [] = ⊥
IsSelect None (items ∷ lists) = AreLists (items ∷ lists)
IsSelect (Some name) lists = IsName name × AreLists lists

-- no group, or one whose names are names
abbrev pub IsOptionalGroup : Option Group → Type 0
IsOptionalGroup None = ⊤
IsOptionalGroup (Some group) = AreNames group.names

-- Its numbers are those of 64 bits.
abbrev pub IsSpan : Span → Type 0
IsSpan span = (unsigned_abs span.ms < 2 ^ 64) × (unsigned_abs span.steps < 2 ^ 64)

-- no span, or such a one
abbrev pub IsOptionalSpan : Option Span → Type 0
IsOptionalSpan None = ⊤
IsOptionalSpan (Some span) = IsSpan span

-- a number within the limits that isn't below zero
abbrev pub IsNumber : ℤ → Type 0
IsNumber z = (is_dec z ≡ true) × ((form_of z).negative ≡ false)

-- a parameter whose name is a name
abbrev pub IsParam : Param → Type 0
IsParam param = IsName param.name

abbrev mutual
  -- a tree whose parts all meet these conditions
  pub IsPrinted : Tree → Type 0
  IsPrinted (number at z) = IsNumber z
  IsPrinted (string at text) = ⊤
  IsPrinted (select at name lists) = IsSelect name lists
  IsPrinted (ranged at inner window offset) = IsPrinted inner × IsOptionalSpan window
      × IsOptionalSpan offset
  IsPrinted (call at name args before after keep) =
      IsName name × ArePrinted args × IsOptionalGroup before × IsOptionalGroup after
  IsPrinted (binary at op truth matching left right) =
      IsPrinted left × IsPrinted right × AreNames matching.names × AreNames matching.extra
  IsPrinted (negate at inner) = IsPrinted inner
  IsPrinted (with_templates at bindings body) = AreBindings bindings × IsPrinted body

  -- such trees as arguments
  pub ArePrinted : Trees → Type 0
  ArePrinted no_trees = ⊤
  ArePrinted (next_tree tree trees) = IsPrinted tree × ArePrinted trees

  -- templates whose names are names and whose bodies are such trees
  pub AreBindings : Templates → Type 0
  AreBindings no_templates = ⊤
  AreBindings (next_template at name params body more) =
      IsName name × AllByRecursion IsParam params × IsPrinted body × AreBindings more

-- The text of such a tree has the words of the tree as its tokens.
abbrev pub PrintsItsWords : Type 0
PrintsItsWords = (tree : Tree) → IsPrinted tree → (tokens : List Token)
    × AreWords (pieces tree) tokens
