use Rattle.std.proofs.Common.{◌≡◌, map, drop}
use Rattle.std.specs.Str.{str_eq_ignore_ascii_case}
use Rattle.mql_lists.specs.Classes.{class_in}
use Rattle.mql_lists.specs.declared.class.Class.{Class as ClassOf}
use Rattle.mql_lists.proofs.class.reserved_class.Given as goal

abbrev pub invariant-loop-word : goal.invariant-loop-word
invariant-loop-word l = (other : ClassOf)
    → class_in (map (λ row. (row.0.now, row.1)) l.fn.rows) (str_eq_ignore_ascii_case l.name) other
    ≡ class_in (map (λ row. (row.0.now, row.1)) (drop l.word-index l.rows))
    (str_eq_ignore_ascii_case l.name) other
