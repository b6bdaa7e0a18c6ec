-- Sets of numbers, as lists that rise.
use Rattle.std.specs.Prelude.{◌≡◌, ℕ, ◌==◌, nat_lt, not, Bool, true, false, List, [], ◌∷◌, ◌++◌, filter}
use Rattle.std.specs.List.{list_any}
use Rattle.vm_base.specs.Sorted.{IsUp}

-- each number is below all that come after it, so none stands twice
abbrev pub Rise : List ℕ → Type 0
Rise = IsUp nat_lt

-- whether a number is in a list
abbrev pub holds : List ℕ → ℕ → Bool
holds numbers n = list_any (λ m. m == n) numbers

-- the list has exactly the numbers that pass the test, each once and in order
pub record AreThose (test : ℕ → Bool) (numbers : List ℕ) : Type 0 where
  pub rising : Rise numbers
  pub same : (n : ℕ) → holds numbers n ≡ test n

-- whether a number stays: one that was found, or else one that wasn't
abbrev pub stays : Bool → Bool → Bool
stays true found = found
stays false found = not found

-- the numbers that are in the other list, or those that aren't
abbrev pub kept : Bool → List ℕ → List ℕ → List ℕ
kept among others = filter (λ n. stays among (holds others n))

-- the numbers of both lists: each of the first, and around it those that the second has
abbrev pub merged : List ℕ → List ℕ → List ℕ
merged [] others = others
merged (n ∷ ns) others = filter (λ m. nat_lt m n) others ++ n ∷ merged ns (filter (nat_lt n) others)
