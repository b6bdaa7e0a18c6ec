-- Values of series, one after the other.
use Rattle.std.proofs.Common.{◌≡◌, List, [], ◌∷◌, ◌++◌, Option, Some, None, map, refl, ap, option_to_list}
use Rattle.vm_machine.specs.Eval.{present}
use Rattle.vm_machine.specs.Found.{values_of, value_of_entry}
use Rattle.vm_base.specs.declared.stamped.Stamped.{Stamped}
use Rattle.vm_labels.specs.declared.pair.Pair.{Pair}

pub present-more : {A B : Type 0} (f : B → Option A) (xs : List B) (x : B)
    → present (map f (xs ++ x ∷ [])) ≡ present (map f xs) ++ option_to_list (f x)
present-more {A} f [] x = go (f x)
  where
    go : (o : Option A) → present (o ∷ []) ≡ option_to_list o
    go None = refl
    go (Some a) = refl
present-more {A} f (y ∷ xs) x = go (f y) (present-more f xs x)
  where
    go : (o : Option A) → present (map f (xs ++ x ∷ [])) ≡ present (map f xs)
        ++ option_to_list (f x)
        → present (o ∷ map f (xs ++ x ∷ [])) ≡ present (o ∷ map f xs) ++ option_to_list (f x)
    go None more = more
    go (Some a) more = ap (λ rest. a ∷ rest) more

pub values_more : (entries : List (List Pair × Option Stamped)) (entry : List Pair × Option Stamped)
    → values_of (entries ++ entry ∷ []) ≡ values_of entries ++ option_to_list (value_of_entry entry)
values_more entries entry = present-more value_of_entry entries entry
