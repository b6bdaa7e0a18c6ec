-- What an expression may stand for as an argument.
use Rattle.std.specs.Prelude.{ℤ, pos, ◌&&◌, not, int_lt, Bool, true, false, Option, Some}
use Rattle.std.specs.Ordering.{int_eq}
use Rattle.std.specs.Option.{option_map_or}
use Rattle.mql_lex.specs.declared.operator.Op.{Op}
use Rattle.mql_lex.specs.declared.operator.Op.TheVariants.{Default, If, IfNot, Or, And, Unless}
use Rattle.vm_decimal.specs.Arithmetic.{floor_of}
use Rattle.vm_decimal.specs.Dec.{dec_of}
use Rattle.vm_labels.specs.Name.{is_name}
use Rattle.mql_expr.specs.Names.{known_as}
use Rattle.mql_expr.specs.Tree.{Tree, Trees, number, string, select, ranged, call, binary, negate, with_templates, no_trees, next_tree}
use Rattle.mql_expr.specs.declared.arguments.Kind.{Kind}
use Rattle.mql_expr.specs.declared.arguments.Kind.TheVariants.{Series, Selector, Count as Counted, Positive, LabelName, Quoted, Numeric}
use Rattle.mql_expr.specs.declared.names.Function.TheVariants.{Abs, Sgn, Ceil, Floor, Round, Clamp, ClampMin, ClampMax, Scalar, Time}
use Rattle.mql_expr.specs.declared.names.Known.{Known}
use Rattle.mql_expr.specs.declared.names.Known.TheVariants.{OfPoints}

-- a string
abbrev pub is_string : Tree → Bool
is_string (string at text) = true
is_string _ = false

-- a selector without window and offset
abbrev pub is_select : Tree → Bool
is_select (select at name lists) = true
is_select _ = false

-- a selector, with a window and an offset or without
abbrev pub is_selector : Tree → Bool
is_selector (ranged at inner window offset) = is_select inner
is_selector t = is_select t

-- a string that is a label's name
abbrev pub is_label_name : Tree → Bool
is_label_name (string at text) = is_name text
is_label_name _ = false

-- whether there is a limit and a number is below it
abbrev pub is_below : ℤ → Option ℤ → Bool
is_below z limit = option_map_or (λ most. int_lt z most) limit false

-- a whole number below 2^32, which is 4294967296 * 10^0
abbrev pub counts : ℤ → Bool
counts z =
    not (int_lt z (pos 0)) && int_eq (floor_of z) z && is_below z (dec_of (pos 4294967296) (pos 0))

-- a written whole number below 2^32
abbrev pub is_count : Tree → Bool
is_count (number at z) = counts z
is_count _ = false

-- a written number above 0
abbrev pub is_positive : Tree → Bool
is_positive (number at z) = int_lt (pos 0) z
is_positive _ = false

-- Arithmetic and comparisons of numbers are numbers.
abbrev pub is_of_numbers : Op → Bool
is_of_numbers Default = false
is_of_numbers If = false
is_of_numbers IfNot = false
is_of_numbers Or = false
is_of_numbers And = false
is_of_numbers Unless = false
is_of_numbers _ = true

-- Whether a call is of numbers alone. `arguments_are` says whether its arguments are.
abbrev pub is_number_call : Option Known → (arguments_are : Bool) → Bool
is_number_call (Some (OfPoints Time)) arguments_are = true
is_number_call (Some (OfPoints Scalar)) arguments_are = true
is_number_call (Some (OfPoints Abs)) arguments_are = arguments_are
is_number_call (Some (OfPoints Sgn)) arguments_are = arguments_are
is_number_call (Some (OfPoints Ceil)) arguments_are = arguments_are
is_number_call (Some (OfPoints Floor)) arguments_are = arguments_are
is_number_call (Some (OfPoints Round)) arguments_are = arguments_are
is_number_call (Some (OfPoints Clamp)) arguments_are = arguments_are
is_number_call (Some (OfPoints ClampMin)) arguments_are = arguments_are
is_number_call (Some (OfPoints ClampMax)) arguments_are = arguments_are
is_number_call _ arguments_are = false

abbrev mutual
  -- whether an expression is one of numbers alone
  pub is_numeric : Tree → Bool
  is_numeric (number at z) = true
  is_numeric (string at text) = false
  is_numeric (select at name lists) = false
  is_numeric (ranged at inner window offset) = false
  is_numeric (call at name args before after keep) =
      is_number_call (known_as name) (are_numeric args)
  is_numeric (binary at op truth matching left right) =
      is_of_numbers op && is_numeric left && is_numeric right
  is_numeric (negate at inner) = is_numeric inner
  is_numeric (with_templates at bindings body) = false

  -- whether all arguments are
  pub are_numeric : Trees → Bool
  are_numeric no_trees = true
  are_numeric (next_tree tree trees) = is_numeric tree && are_numeric trees

-- whether an expression may be an argument of this kind
abbrev pub is_of_kind : Kind → Tree → Bool
is_of_kind Series tree = not (is_string tree)
is_of_kind Selector tree = is_selector tree
is_of_kind Counted tree = is_count tree
is_of_kind Positive tree = is_positive tree
is_of_kind LabelName tree = is_label_name tree
is_of_kind Quoted tree = is_string tree
is_of_kind Numeric tree = is_numeric tree
