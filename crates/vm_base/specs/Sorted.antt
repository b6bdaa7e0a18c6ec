-- Lists in order by a test whether one item may stand before another, and the last item of a list.
use Rattle.std.specs.Prelude.{◌≡◌, ◌⊎◌, Bool, true, List, [], ◌∷◌, Option, Some, None, if◌then◌else◌, count_by, ⊤}
use Rattle.std.specs.List.{AllByRecursion}

-- By the test any two items have an order, and no two different ones tie.
pub record IsOrder {X : Type 0} (le : X → X → Bool) : Type 0 where
  pub same : (a : X) → le a a ≡ true
  pub chain : (a b c : X) → le a b ≡ true → le b c ≡ true → le a c ≡ true
  pub anti : (a b : X) → le a b ≡ true → le b a ≡ true → a ≡ b
  pub total : (a b : X) → (le a b ≡ true) ⊎ (le b a ≡ true)

-- each item may stand before all that come after it
abbrev pub IsUp : {X : Type 0} → (X → X → Bool) → List X → Type 0
IsUp le [] = ⊤
IsUp le (x ∷ xs) = AllByRecursion (λ y. le x y ≡ true) xs × IsUp le xs

-- any test passes for as many items of one list as of the other: both hold each item equally often
abbrev pub SameCounts : {X : Type 0} → List X → List X → Type 0
SameCounts {X} xs ys = (p : X → Bool) → count_by p xs ≡ count_by p ys

-- a list in order, with x before the first item that it may stand before
abbrev pub put_in : {X : Type 0} → (X → X → Bool) → X → List X → List X
put_in le x [] = x ∷ []
put_in le x (y ∷ ys) = if le x y then x ∷ y ∷ ys else y ∷ put_in le x ys

-- the items of the list, in order
abbrev pub sorted : {X : Type 0} → (X → X → Bool) → List X → List X
sorted le [] = []
sorted le (x ∷ xs) = put_in le x (sorted le xs)

-- the last item, or none of an empty list
abbrev pub last_of : {X : Type 0} → List X → Option X
last_of [] = None
last_of (x ∷ []) = Some x
last_of (x ∷ y ∷ ys) = last_of (y ∷ ys)

-- of two items that may be missing, the one that comes later in the order
abbrev pub later : {X : Type 0} → (X → X → Bool) → Option X → Option X → Option X
later le None b = b
later le (Some a) None = Some a
later le (Some a) (Some b) = Some (if le a b then b else a)
