-- How closely the parts of a query bind, the loosest first. (MetricsQL, "Operator precedence")
use Rattle.std.specs.Prelude.{ℕ}
use Rattle.mql_lex.specs.declared.operator.Op.{Op}
use Rattle.mql_lex.specs.declared.operator.Op.TheVariants.{Default, If, IfNot, Or, And, Unless, Equal, Differs, AtMost, AtLeast, Below, Above, Add, Sub, Mul, Div, Rem}
use Rattle.mql_expr.specs.Tree.{Tree, number, string, select, ranged, call, binary, negate, with_templates}

-- the level of an operator, from 1, the loosest, to 7
abbrev pub level_of_op : Op → ℕ
level_of_op Default = 1
level_of_op If = 2
level_of_op IfNot = 2
level_of_op Or = 3
level_of_op And = 4
level_of_op Unless = 4
level_of_op Equal = 5
level_of_op Differs = 5
level_of_op AtMost = 5
level_of_op AtLeast = 5
level_of_op Below = 5
level_of_op Above = 5
level_of_op Add = 6
level_of_op Sub = 6
level_of_op Mul = 7
level_of_op Div = 7
level_of_op Rem = 7

-- A WITH, whose body reaches as far as it can, is looser than any operator. A minus binds closer
-- than these, a window or an offset closer still, and all else closest.
abbrev pub level_of : Tree → ℕ
level_of (with_templates at bindings body) = 0
level_of (binary at op truth matching left right) = level_of_op op
level_of (negate at inner) = 8
level_of (ranged at inner window offset) = 9
level_of (number at z) = 10
level_of (string at text) = 10
level_of (select at name lists) = 10
level_of (call at name args before after keep) = 10
