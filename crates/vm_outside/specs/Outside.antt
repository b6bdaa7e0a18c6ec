-- What a call does to the bytes and to the counts of faults of an object of the outside.
use Rattle.std.specs.Prelude.{◌≡◌, ℕ, ◌+◌, ◌-◌, ◌^◌, ◌≤◌, min, max, List, ◌++◌, Option, Some, None, Result, is_err, if◌then◌else◌, ⊤}
use Rattle.std.specs.Option.{option_map}

-- the greatest count, which can't rise further
abbrev pub most : ℕ
most = 2 ^ 64 - 1

-- a count after one more, which stays where it is at the greatest
abbrev pub raised : ℕ → ℕ
raised count = max count (min (count + 1) most)

-- the count rose by n at least, or is where it can't rise further
abbrev pub RoseBy : ℕ → ℕ → ℕ → Type 0
RoseBy n before now = min (before + n) most ≤ now

-- the count rose, or is where it can't rise further
abbrev pub Rose : ℕ → ℕ → Type 0
Rose before now = RoseBy 1 before now

-- the count is one more where the call failed, and else what it was
abbrev pub CountsEach : {A E : Type 0} → Result A E → ℕ → ℕ → Type 0
CountsEach result before now = now ≡ (if is_err result then raised before else before)

-- what was left is these bytes and what is left now, both told or both untold
abbrev pub Gives : Option (List ℕ) → List ℕ → Option (List ℕ) → Type 0
Gives before bytes now = before ≡ option_map (λ rest. bytes ++ rest) now

-- what is taken now is what was taken and these bytes, both told or both untold
abbrev pub Takes : Option (List ℕ) → List ℕ → Option (List ℕ) → Type 0
Takes before bytes now = now ≡ option_map (λ taken. taken ++ bytes) before

-- the fact holds of the content, where that is told
abbrev pub Told : {A : Type 0} → Option A → (A → Type 0) → Type 0
Told None P = ⊤
Told (Some a) P = P a
