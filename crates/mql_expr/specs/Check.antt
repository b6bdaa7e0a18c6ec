-- What is wrong with a query that was read.
use Rattle.std.specs.Prelude.{ℕ, suc, ◌&&◌, ◌||◌, not, Bool, true, false, List, [], ◌∷◌, ◌++◌, Option, Some, None, Result, Ok, Err, is_some, if◌then◌else◌}
use Rattle.std.specs.Option.{option_map_or}
use Rattle.mql_lex.specs.declared.group.Group.{Group}
use Rattle.mql_lex.specs.declared.group.Many.{Many}
use Rattle.mql_lex.specs.declared.group.Many.TheVariants.{One}
use Rattle.mql_lex.specs.declared.operator.Op.{Op}
use Rattle.mql_expr.specs.Arguments.{first_kinds, rest_of, kind_at, may_end}
use Rattle.mql_expr.specs.Kinds.{is_string, is_select, is_of_numbers, is_of_kind}
use Rattle.mql_expr.specs.Names.{known_as}
use Rattle.mql_expr.specs.Tree.{Tree, Trees, Templates, number, string, select, ranged, call, binary, negate, with_templates, no_trees, next_tree, no_templates, next_template}
use Rattle.mql_expr.specs.declared.fault.CheckFault.{CheckFault}
use Rattle.mql_expr.specs.declared.fault.CheckFault.TheVariants.{UnknownFunction, WrongArguments}
use Rattle.mql_expr.specs.declared.names.Known.{Known}
use Rattle.mql_expr.specs.declared.names.Known.TheVariants.{OfGroup}

-- how many arguments these are
abbrev pub count_of : Trees → ℕ
count_of no_trees = 0
count_of (next_tree tree trees) = suc (count_of trees)

-- whether the argument at an index may be this
abbrev pub may_be : Known → ℕ → Tree → Bool
may_be known index tree =
    option_map_or (λ kind. is_of_kind kind tree) (kind_at (first_kinds known) (rest_of known) index)
    false

-- whether these may be the arguments from an index on
abbrev pub may_be_from : Known → ℕ → Trees → Bool
may_be_from known index no_trees = true
may_be_from known index (next_tree tree trees) =
    may_be known index tree && may_be_from known (suc index) trees

-- whether a call may have these arguments
abbrev pub arguments_fit : Known → Trees → Bool
arguments_fit known args =
    may_end (first_kinds known) (rest_of known) (count_of args) && may_be_from known 0 args

-- Only an aggregate has a group, and one at most. It has no `keep_metric_names`.
abbrev pub words_fit : Known → (before after : Option Group) → (keep : Bool) → Bool
words_fit (OfGroup aggregate) before after keep = not (is_some before && is_some after) && not keep
words_fit _ before after keep = not (is_some before || is_some after)

-- whether a call may have these arguments, groups and `keep_metric_names`
abbrev pub call_fits : Known → Trees → (before after : Option Group) → (keep : Bool) → Bool
call_fits known args before after keep =
    arguments_fit known args && words_fit known before after keep

-- no fault where it fits, else `WrongArguments` at this place
abbrev pub wrong_unless : Bool → ℕ → List CheckFault
wrong_unless fits at = if fits then [] else WrongArguments at ∷ []

-- a call of a function or an aggregate, if it is one
abbrev pub call_faults : Option Known → ℕ → Trees → (before after : Option Group) → (keep : Bool)
    → List CheckFault
call_faults None at args before after keep = UnknownFunction at ∷ []
call_faults (Some known) at args before after keep =
    wrong_unless (call_fits known args before after keep) at

-- Only arithmetic and comparisons have `group_left` or `group_right`.
abbrev pub many_fits : Op → Many → Bool
many_fits op One = true
many_fits op _ = is_of_numbers op

-- whether an operator may have these operands, and `group_left` or `group_right` where it has one
abbrev pub operands_fit : Op → Many → (left right : Tree) → Bool
operands_fit op many left right = not (is_string left) && not (is_string right) && many_fits op many

abbrev mutual
  -- All faults, those of a node's parts before its own.
  pub faults : Tree → List CheckFault
  faults (number at z) = []
  faults (string at text) = []
  faults (select at name lists) = []
  faults (ranged at inner window offset) = faults inner ++ wrong_unless (is_select inner) at
  faults (call at name args before after keep) =
      faults_of args ++ call_faults (known_as name) at args before after keep
  faults (binary at op truth matching left right) =
      faults left ++ faults right
      ++ wrong_unless (operands_fit op matching.many left right) at
  faults (negate at inner) = faults inner ++ wrong_unless (not (is_string inner)) at
  faults (with_templates at bindings body) = template_faults bindings ++ faults body

  -- those of arguments
  pub faults_of : Trees → List CheckFault
  faults_of no_trees = []
  faults_of (next_tree tree trees) = faults tree ++ faults_of trees

  -- those of templates
  pub template_faults : Templates → List CheckFault
  template_faults no_templates = []
  template_faults (next_template at name params body more) = faults body ++ template_faults more

-- A string is no query.
abbrev pub whole_faults : Tree → List CheckFault
whole_faults (string at text) = WrongArguments at ∷ []
whole_faults _ = []

-- all faults of a query
abbrev pub query_faults : Tree → List CheckFault
query_faults tree = faults tree ++ whole_faults tree

-- the first of these, if there is one
abbrev pub first_fault : List CheckFault → Result (Unit {0}) CheckFault
first_fault [] = Ok tt
first_fault (fault ∷ faults) = Err fault
