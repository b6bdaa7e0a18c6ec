-- The texts that say that there is no number.
use Rattle.std.specs.Prelude.{◌≡◌, ℕ, ◌⊎◌, List, [], ◌∷◌, codes}
use Rattle.std.specs.Str.{str_to_ascii_lowercase}

-- one of some words in lower case, in any case
abbrev pub IsOneOf : List (List ℕ) → List ℕ → Type 0
IsOneOf [] text = ⊥
IsOneOf (word ∷ words) text = (str_to_ascii_lowercase text ≡ word) ⊎ IsOneOf words text

-- the words for no number, in lower case
abbrev pub no_numbers : List (List ℕ)
no_numbers =
    codes "nan" ∷ codes "inf" ∷ codes "infinity" ∷ codes "+inf" ∷ codes "+infinity" ∷ codes "-inf"
    ∷ codes "-infinity" ∷ []

-- `nan`, or `inf` or `infinity` with an optional sign, in any case
abbrev pub IsNoNumber : List ℕ → Type 0
IsNoNumber text = IsOneOf no_numbers text
