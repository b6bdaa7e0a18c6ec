-- Arguments and templates as they are gone over one by one.
use Rattle.std.proofs.Common.{◌≡◌, ℕ, Bool, Option, refl, [], suc, ◌+◌, ◌<◌, List, ◌∷◌, length, drop, get_or, drop-cons, add-one, rules, sym, ap, ◌∙◌}
use Rattle.mql_lex.specs.declared.group.Matching.{Matching}
use Rattle.mql_lex.specs.declared.operator.Op.{Op}
use Rattle.mql_lex.specs.declared.span.Span.{Span}
use Rattle.mql_expr.specs.Check.{count_of}
use Rattle.mql_expr.specs.declared.expr.Node.TheVariants.{Ranged, Binary, With}
use Rattle.mql_expr.specs.Tree.{next_tree, next_template, ranged, binary, with_templates, tree, trees_in, template, templates_in}
use Rattle.mql_expr.specs.declared.expr.Expr.{Expr, the_lemmas}
use Rattle.mql_expr.specs.declared.expr.Template.{Template}

-- what is left at an index is the argument there and what is left after it
pub next_at : (exprs : List Expr) (i : ℕ) (x : Expr) → i < length exprs → x ≡ get_or exprs i x
    → trees_in (drop i exprs) ≡ next_tree (tree x) (trees_in (drop (i + 1) exprs))
next_at exprs i x low is =
    rw add-one
    (ap trees_in (drop-cons exprs i x low)
    ∙ ap (λ y. next_tree (tree y) (trees_in (drop (suc i) exprs))) (sym is))

pub template_is : (t : Template)
    → template t ≡ record { at = t.at; name = t.name; params = t.params; body = tree t.body }
template_is t = search (rules, the_lemmas)

-- the same of templates
pub template_at : (ts : List Template) (i : ℕ) (t : Template) → i < length ts → t ≡ get_or ts i t
    → templates_in (drop i ts)
    ≡ next_template t.at t.name t.params (tree t.body) (templates_in (drop (i + 1) ts))
template_at ts i t low is =
    let more = templates_in (drop (suc i) ts) in
    rw add-one
    (ap templates_in (drop-cons ts i t low)
    ∙ ap (λ u. templates_in (u ∷ drop (suc i) ts)) (sym is)
    ∙ ap (λ u. next_template u.at u.name u.params u.body more) (template_is t))

pub tree_ranged : (e inner : Expr) (window offset : Option Span)
    → e.node ≡ Ranged inner window offset → tree e ≡ ranged e.at (tree inner) window offset
tree_ranged e inner window offset is = search (rules, the_lemmas)

pub tree_binary : (e left right : Expr) (op : Op) (truth : Bool) (matching : Matching)
    → e.node ≡ Binary op truth matching left right
    → tree e ≡ binary e.at op truth matching (tree left) (tree right)
tree_binary e left right op truth matching is = search (rules, the_lemmas)

pub tree_with : (e body : Expr) (ts : List Template) → e.node ≡ With ts body
    → tree e ≡ with_templates e.at (templates_in ts) (tree body)
tree_with e body ts is = search (rules, the_lemmas)

pub count_is : (args : List Expr) → count_of (trees_in args) ≡ length args
count_is [] = refl
count_is (e ∷ es) = ap suc (count_is es)
