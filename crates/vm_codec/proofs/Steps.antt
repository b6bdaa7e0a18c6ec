-- Values equally far apart, by one integer.
use Rattle.std.proofs.Common.{◌≡◌, ℕ, zero, suc, ℤ, ◌+ℤ◌, ◌-ℤ◌, true, List, [], ◌∷◌, length, replicate, Option, Some, None, ap, ap₂, refl, sym, subst, ◌∙◌, arith}
use Rattle.std.specs.List.{AllByRecursion, list_all}
use Rattle.std.specs.Option.{option_map, option_and_then}
use Rattle.std.specs.Ordering.{int_eq}
use Rattle.std.proofs.lemmas.Bool.{and_parts, and_from}
use Rattle.std.proofs.lemmas.Bool.Decides.{Decides-int_eq}
use Rattle.std.proofs.lemmas.Int.{ints}
use Rattle.std.proofs.lemmas.Option.{option_and_then_some}
use Rattle.vm_codec.specs.Coding.{IsInBounds, differences}
use Rattle.vm_codec.specs.inner.Reading.{bounded, steps_from}
use Rattle.vm_codec.proofs.Integers.{bounded_some, bounded_again, same_some}
use Rattle.vm_codec.proofs.Values.{one_step, steps_zero}

add_less : (value step : ℤ) → value +ℤ step -ℤ value ≡ step
add_less value step = omega (arith, ints)

add_back : (value next : ℤ) → value +ℤ (next -ℤ value) ≡ next
add_back value next = omega (arith, ints)

-- the values that are read
pub record AreSteps (count : ℕ) (value step : ℤ) (values : List ℤ) : Type 0 where
  pub len : length values ≡ count
  pub bounds : AllByRecursion IsInBounds values
  pub gaps : differences (value ∷ values) ≡ replicate count step

steps_from-more : (count : ℕ) (value step : ℤ) → steps_from (suc count) value step
    ≡ option_and_then (λ next. option_map (λ others. next ∷ others) (steps_from count next step))
    (bounded (value +ℤ step))
unfolding steps_from
steps_from-more count value step = refl

map_some : (next : ℤ) (o : Option (List ℤ)) (values : List ℤ) {P : Type 0}
    → option_map (λ others. next ∷ others) o ≡ Some values
    → ((others : List ℤ) → o ≡ Some others → next ∷ others ≡ values → P) → P
map_some next None values is use_it = absurd (cc)
map_some next (Some others) values is use_it =
    use_it others refl (same_some (next ∷ others) values is)

pub steps_take : (count : ℕ) (value step : ℤ) (values : List ℤ)
    → steps_from count value step ≡ Some values → AreSteps count value step values
steps_take zero value step values is =
    subst (AreSteps 0 value step) (same_some [] values (sym (steps_zero value step) ∙ is))
    (record { len = refl; bounds = tt; gaps = refl })
steps_take (suc count) value step values is =
    option_and_then_some (λ next. option_map (λ others. next ∷ others) (steps_from count next step))
    (bounded (value +ℤ step)) values
    (sym (steps_from-more count value step) ∙ is)
    (λ next bound kept. map_some next (steps_from count next step) values kept
    (λ others read whole. subst (AreSteps (suc count) value step) whole
    (let sum = bounded_some (value +ℤ step) next bound in
    let more = steps_take count next step others read in
    let gap : next -ℤ value ≡ step = ap (λ n. n -ℤ value) (sym sum.0) ∙ add_less value step in
    record {
      len = ap suc more.len;
      bounds = (sum.1, more.bounds);
      gaps = ap₂ (λ d ds. d ∷ ds) gap more.gaps;
    })))

pub same_int : (z : ℤ) → int_eq z z ≡ true
same_int z = (Decides-int_eq z z).1 refl

-- so many times the same is equal
pub all_replicate : (count : ℕ) (z : ℤ) → list_all (int_eq z) (replicate count z) ≡ true
all_replicate zero z = refl
all_replicate (suc count) z =
    and_from (int_eq z z) (list_all (int_eq z) (replicate count z)) (same_int z)
    (all_replicate count z)

-- values with equal differences are read
pub steps_again : (values : List ℤ) (value step : ℤ) → AllByRecursion IsInBounds values
    → list_all (int_eq step) (differences (value ∷ values)) ≡ true
    → steps_from (length values) value step ≡ Some values
steps_again [] value step all equal = steps_zero value step
steps_again (next ∷ more) value step all equal =
    let both =
    and_parts (int_eq step (next -ℤ value)) (list_all (int_eq step) (differences (next ∷ more)))
    equal in
    let gap : step ≡ next -ℤ value = (Decides-int_eq step (next -ℤ value)).0 both.0 in
    let sum : value +ℤ step ≡ next = ap (λ s. value +ℤ s) gap ∙ add_back value next in
    one_step (length more) value step next (ap bounded sum ∙ bounded_again next all.0)
    ∙ ap (option_map (λ others. next ∷ others)) (steps_again more next step all.1 both.1)
