-- Which patterns a selector has, and why a matcher of it can't be built.
use Rattle.std.specs.Prelude.{◌≡◌, ℕ, List, [], ◌∷◌, ◌++◌, Result, MatchResult, ⊤}
use Rattle.std.specs.List.{All, flat_map}
use Rattle.vm_labels.specs.declared.selector.Filter.{Filter}
use Rattle.vm_labels.specs.declared.selector.FilterOp.{FilterOp}
use Rattle.vm_labels.specs.declared.selector.FilterOp.TheVariants.{Equal, Differs, Matches, MatchesNot}
use Rattle.vm_labels.specs.declared.selector.Selector.{Selector}
use Rattle.vm_match.specs.declared.fault.MatchFault.{MatchFault}
use Rattle.vm_match.specs.declared.fault.MatchFault.TheVariants.{BadPattern, PatternRefused, Memory}
use Rattle.vm_outside.specs.Outside.{Rose}

-- the pattern of a filter, if it has one, by its operator and its text
abbrev pub pattern_in : FilterOp → List ℕ → List (List ℕ)
pattern_in Equal text = []
pattern_in Differs text = []
pattern_in Matches text = text ∷ []
pattern_in MatchesNot text = text ∷ []

-- those of some filters, in order
abbrev pub patterns_in : List Filter → List (List ℕ)
patterns_in = flat_map (λ f. pattern_in f.op f.value)

-- those of a selector, list by list
abbrev pub patterns_of : Selector → List (List ℕ)
patterns_of s = flat_map patterns_in s.lists

-- the text is one of these, and all before it are patterns
abbrev pub IsReached : (List ℕ → Type 0) → List (List ℕ) → List ℕ → Type 0
IsReached IsPattern texts text = (before : List (List ℕ)) × (after : List (List ℕ))
    × (texts ≡ before ++ text ∷ after) × All IsPattern before

-- What each fault says of the texts, in order, and of the count of refusals before and now: the
-- first that is no pattern, one that was refused and counted, or nothing.
abbrev pub IsCause : (List ℕ → Type 0) → List (List ℕ) → ℕ → ℕ → MatchFault → Type 0
IsCause IsPattern texts before now (BadPattern text) = IsReached IsPattern texts text
    × (IsPattern text → ⊥)
IsCause IsPattern texts before now (PatternRefused text) = IsReached IsPattern texts text
    × Rose before now
IsCause IsPattern texts before now Memory = ⊤

-- an answer for these texts: a good one only where all are patterns, else a cause
abbrev pub Answers : {T : Type 0} → (List ℕ → Type 0) → List (List ℕ) → ℕ → ℕ → Result T MatchFault
    → Type 0
Answers IsPattern texts before now result =
    MatchResult result (λ built. All IsPattern texts) (IsCause IsPattern texts before now)
