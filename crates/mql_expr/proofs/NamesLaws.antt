-- How a name is looked up.
use Rattle.std.proofs.Common.{◌≡◌, ℕ, suc, ◌+◌, ◌<◌, false, List, length, drop, get_or, Some, if◌then◌else◌, drop-cons, add-one, ap, ◌∙◌}
use Rattle.mql_expr.specs.Names.{has_name, first_named}
use Rattle.mql_expr.specs.declared.names.Known.{Known}

-- one that doesn't have the name is passed by
pub passed : (all : List Known) (name : List ℕ) (i : ℕ) (d : Known) → i < length all
    → has_name (get_or all i d) name ≡ false
    → first_named (drop i all) name ≡ first_named (drop (i + 1) all) name
passed all name i d low other =
    rw add-one
    (ap (λ ks. first_named ks name) (drop-cons all i d low)
    ∙ ap (λ b. if b then Some (get_or all i d) else first_named (drop (suc i) all) name) other)
