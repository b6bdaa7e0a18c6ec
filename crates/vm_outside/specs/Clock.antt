-- The answers that a clock will give, as a list that isn't empty and whose last one repeats.
use Rattle.std.specs.Prelude.{◌≡◌, ℕ, List, [], ◌∷◌, Option, Some, None}

-- the first answer of the list is this time
abbrev pub begins_with : List ℕ → ℕ → Type 0
begins_with [] t = ⊥
begins_with (u ∷ us) t = t ≡ u

-- the answers after the first one, which stays where it is the last
abbrev pub without_first : List ℕ → List ℕ
without_first [] = []
without_first (t ∷ []) = t ∷ []
without_first (t ∷ u ∷ ts) = u ∷ ts

-- it answered the first of the answers told, and tells those after it now; told nothing, it tells
-- nothing
abbrev pub Answers : Option (List ℕ) → ℕ → Option (List ℕ) → Type 0
Answers None t now = now ≡ None
Answers (Some ts) t now = begins_with ts t × (now ≡ Some (without_first ts))
