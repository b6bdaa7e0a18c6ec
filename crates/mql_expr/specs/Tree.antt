-- A query as plain data. Texts are lists of bytes, a number is a whole number of units of 10^-1000,
-- and `at` is the place in the query's text that a fault of the node is named at.
use Rattle.std.specs.Prelude.{ℕ, ℤ, Bool, List, [], ◌∷◌, map, Option}
use Rattle.mql_lex.specs.declared.group.Group.{Group}
use Rattle.mql_lex.specs.declared.group.Matching.{Matching}
use Rattle.mql_lex.specs.declared.operator.Op.{Op}
use Rattle.mql_lex.specs.declared.span.Span.{Span}
use Rattle.mql_expr.specs.declared.item.Item.{Item}
use Rattle.mql_expr.specs.declared.expr.Param.{Param}
use Rattle.mql_expr.specs.declared.expr.Template.{Template, fold-Template}
use Rattle.mql_expr.specs.declared.expr.Expr.{Expr, fold-Expr}
use Rattle.mql_expr.specs.declared.expr.Node.TheOpen.{Node-F, Template-F}

mutual
  -- an expression
  pub data Tree : Type 0 where
    number : (at : ℕ) → ℤ → Tree
    string : (at : ℕ) → List ℕ → Tree
    select : (at : ℕ) → (name : Option (List ℕ)) → (lists : List (List Item)) → Tree
    ranged : (at : ℕ) → Tree → (window offset : Option Span) → Tree
    call : (at : ℕ) → (name : List ℕ) → Trees → (before after : Option Group) → (keep : Bool) → Tree
    binary : (at : ℕ) → Op → (truth : Bool) → Matching → (left right : Tree) → Tree
    negate : (at : ℕ) → Tree → Tree
    with_templates : (at : ℕ) → Templates → (body : Tree) → Tree

  -- the arguments of a call
  pub data Trees : Type 0 where
    no_trees : Trees
    next_tree : Tree → Trees → Trees

  -- the templates of a `with`
  pub data Templates : Type 0 where
    no_templates : Templates
    next_template : (at : ℕ) → (name : List ℕ) → (params : List Param) → (body : Tree) → Templates
        → Templates

-- trees as the arguments of a call
abbrev pub trees_of : List Tree → Trees
trees_of [] = no_trees
trees_of (t ∷ ts) = next_tree t (trees_of ts)

-- a template whose body is a tree
pub record TreeTemplate : Type 0 where
  pub at : ℕ
  pub name : List ℕ
  pub params : List Param
  pub body : Tree

-- such templates as those of a `with`
abbrev pub templates_listed : List TreeTemplate → Templates
templates_listed [] = no_templates
templates_listed (t ∷ ts) = next_template t.at t.name t.params t.body (templates_listed ts)

-- What an expression is as a tree: one layer of it, with the trees of its parts in their places.
abbrev pub node_tree : Node-F (ℕ → Tree) Tree TreeTemplate → ℕ → Tree
node_tree (Node-F.Number z) at = number at z
node_tree (Node-F.Str text) at = string at text
node_tree (Node-F.Select name lists) at = select at name lists
node_tree (Node-F.Ranged inner window offset) at = ranged at inner window offset
node_tree (Node-F.Call name args before after keep) at =
    call at name (trees_of args) before after keep
node_tree (Node-F.Binary op truth matching left right) at = binary at op truth matching left right
node_tree (Node-F.Negate inner) at = negate at inner
node_tree (Node-F.With templates body) at = with_templates at (templates_listed templates) body

-- the same of a template
abbrev pub template_tree : Template-F (ℕ → Tree) Tree TreeTemplate → TreeTemplate
template_tree t = record { at = t.at; name = t.name; params = t.params; body = t.body }

-- an expression as a tree
abbrev pub tree : Expr → Tree
tree = fold-Expr (ℕ → Tree) Tree TreeTemplate node_tree (λ e. e.node e.at) template_tree

-- expressions as the arguments of a call
abbrev pub trees_in : List Expr → Trees
trees_in exprs = trees_of (map tree exprs)

-- a template with its body as a tree
abbrev pub template : Template → TreeTemplate
template = fold-Template (ℕ → Tree) Tree TreeTemplate node_tree (λ e. e.node e.at) template_tree

-- templates as those of a `with`
abbrev pub templates_in : List Template → Templates
templates_in ts = templates_listed (map template ts)
