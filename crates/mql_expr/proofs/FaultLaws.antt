-- The first of faults that stand one after the other.
use Rattle.std.proofs.Common.{◌≡◌, Bool, Option, List, [], ◌∷◌, ◌++◌, Ok, Err, refl, ap, ◌∙◌}
use Rattle.mql_lex.specs.declared.group.Matching.{Matching}
use Rattle.mql_lex.specs.declared.operator.Op.{Op}
use Rattle.mql_lex.specs.declared.span.Span.{Span}
use Rattle.mql_expr.specs.Check.{faults, template_faults, wrong_unless, operands_fit, first_fault}
use Rattle.mql_expr.specs.Kinds.{is_select}
use Rattle.mql_expr.specs.Tree.{tree, templates_in}
use Rattle.mql_expr.specs.declared.expr.Expr.{Expr}
use Rattle.mql_expr.specs.declared.expr.Template.{Template}
use Rattle.mql_expr.specs.declared.expr.Node.TheVariants.{Ranged, Binary, With}
use Rattle.mql_expr.specs.declared.fault.CheckFault.{CheckFault}
use Rattle.mql_expr.proofs.TreeLaws.{tree_ranged, tree_binary, tree_with}

pub goes_on : (a b : List CheckFault) (u : Unit {0}) → first_fault a ≡ Ok u
    → first_fault (a ++ b) ≡ first_fault b
goes_on [] b u none = refl
goes_on (f ∷ fs) b u none = cc

pub stops : (a b : List CheckFault) (f : CheckFault) → first_fault a ≡ Err f
    → first_fault (a ++ b) ≡ Err f
stops [] b f first = cc
stops (g ∷ fs) b f first = first

pub ruleset in_order = (goes_on, stops)

-- after parts without a fault the first is that of the expression itself, or of what is left of it
pub ranged_goes_on : (e inner : Expr) (window offset : Option Span) (u : Unit {0})
    → e.node ≡ Ranged inner window offset → first_fault (faults (tree inner)) ≡ Ok u
    → first_fault (faults (tree e)) ≡ first_fault (wrong_unless (is_select (tree inner)) e.at)
ranged_goes_on e inner window offset u is ok =
    ap (λ t. first_fault (faults t)) (tree_ranged e inner window offset is)
    ∙ goes_on (faults (tree inner)) (wrong_unless (is_select (tree inner)) e.at) u ok

pub binary_goes_on :
    (e left right : Expr) (op : Op) (truth : Bool) (matching : Matching) (u v : Unit {0})
    → e.node ≡ Binary op truth matching left right
    → first_fault (faults (tree left)) ≡ Ok u → first_fault (faults (tree right)) ≡ Ok v
    → first_fault (faults (tree e))
    ≡ first_fault (wrong_unless (operands_fit op matching.many (tree left) (tree right)) e.at)
binary_goes_on e left right op truth matching u v is ok too =
    ap (λ t. first_fault (faults t)) (tree_binary e left right op truth matching is)
    ∙ goes_on (faults (tree left) ++ faults (tree right))
    (wrong_unless (operands_fit op matching.many (tree left) (tree right)) e.at) v
    (goes_on (faults (tree left)) (faults (tree right)) u ok ∙ too)

pub binary_stops :
    (e left right : Expr) (op : Op) (truth : Bool) (matching : Matching) (u : Unit {0})
    (f : CheckFault) → e.node ≡ Binary op truth matching left right
    → first_fault (faults (tree left)) ≡ Ok u → first_fault (faults (tree right)) ≡ Err f
    → first_fault (faults (tree e)) ≡ Err f
binary_stops e left right op truth matching u f is ok first =
    ap (λ t. first_fault (faults t)) (tree_binary e left right op truth matching is)
    ∙ stops (faults (tree left) ++ faults (tree right))
    (wrong_unless (operands_fit op matching.many (tree left) (tree right)) e.at) f
    (goes_on (faults (tree left)) (faults (tree right)) u ok ∙ first)

pub with_goes_on : (e body : Expr) (ts : List Template) (u : Unit {0}) → e.node ≡ With ts body
    → first_fault (template_faults (templates_in ts)) ≡ Ok u
    → first_fault (faults (tree e)) ≡ first_fault (faults (tree body))
with_goes_on e body ts u is ok =
    ap (λ t. first_fault (faults t)) (tree_with e body ts is)
    ∙ goes_on (template_faults (templates_in ts)) (faults (tree body)) u ok
