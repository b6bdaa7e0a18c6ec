-- The name of a call as it is printed.
use Rattle.std.specs.Prelude.{◌≡◌, ℕ, List, Option, Some, None}
use Rattle.std.specs.Option.{option_map_or}
use Rattle.std.proofs.Common.{refl, ap}
use Rattle.mql_expr.specs.Canonical.{call_name}
use Rattle.mql_expr.specs.Names.{rollup_name, aggregate_name, function_name, name_of, known_as}
use Rattle.mql_expr.specs.declared.names.Rollup.{Rollup}
use Rattle.mql_expr.specs.declared.names.Rollup.TheVariants.{DefaultRollup}
use Rattle.mql_expr.specs.declared.names.Aggregate.{Aggregate}
use Rattle.mql_expr.specs.declared.names.Aggregate.TheVariants.{Sum}
use Rattle.mql_expr.specs.declared.names.Function.{Function}
use Rattle.mql_expr.specs.declared.names.Function.TheVariants.{Abs}
use Rattle.mql_expr.specs.declared.names.Known.{Known}
use Rattle.mql_expr.specs.declared.names.Known.TheVariants.{OfWindow, OfGroup, OfPoints}
use Rattle.mql_lists.specs.Classes.{class_of_name}
use Rattle.mql_laws.specs.ReadBack.{IsFree}

-- no name of a function is a reserved word

free_rollup : (r : Rollup) → IsFree (rollup_name r)
unfolding class_of_name
free_rollup DefaultRollup = refl
free_rollup _ = refl

free_aggregate : (a : Aggregate) → IsFree (aggregate_name a)
unfolding class_of_name
free_aggregate Sum = refl
free_aggregate _ = refl

free_function : (f : Function) → IsFree (function_name f)
unfolding class_of_name
free_function Abs = refl
free_function _ = refl

free_known : (k : Known) → IsFree (name_of k)
free_known (OfWindow r) = free_rollup r
free_known (OfGroup a) = free_aggregate a
free_known (OfPoints f) = free_function f

pub call_name_free : (name : List ℕ) → IsFree name → IsFree (call_name name)
call_name_free name free = go (known_as name)
  where
    go : (o : Option Known) → IsFree (option_map_or name_of o name)
    go None = free
    go (Some k) = free_known k

-- each name is known as its own

known_rollup : (r : Rollup) → known_as (rollup_name r) ≡ Some (OfWindow r)
unfolding known_as
known_rollup DefaultRollup = refl
known_rollup _ = refl

known_aggregate : (a : Aggregate) → known_as (aggregate_name a) ≡ Some (OfGroup a)
unfolding known_as
known_aggregate Sum = refl
known_aggregate _ = refl

known_function : (f : Function) → known_as (function_name f) ≡ Some (OfPoints f)
unfolding known_as
known_function Abs = refl
known_function _ = refl

known_again : (k : Known) → known_as (name_of k) ≡ Some k
known_again (OfWindow r) = known_rollup r
known_again (OfGroup a) = known_aggregate a
known_again (OfPoints f) = known_function f

pub call_name_again : (name : List ℕ) → call_name (call_name name) ≡ call_name name
call_name_again name = go (known_as name) refl
  where
    go : (o : Option Known) → known_as name ≡ o
        → call_name (option_map_or name_of o name) ≡ option_map_or name_of o name
    go None is = ap (λ p. option_map_or name_of p name) is
    go (Some k) is = ap (λ p. option_map_or name_of p (name_of k)) (known_again k)
