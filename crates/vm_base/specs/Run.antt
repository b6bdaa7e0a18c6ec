-- Machines that read a text one symbol at a time.
use Rattle.std.specs.Prelude.{◌≡◌, ℕ, suc, List, [], ◌∷◌, Option, Some, Result, Ok, Err}
use Rattle.std.specs.Option.{option_and_then, option_map_or, ok_or}

-- the state after these symbols, none where the machine can't go on
abbrev pub run : {S A : Type 0} → (S → A → Option S) → S → List A → Option S
run step s [] = Some s
run step s (a ∷ more) = option_and_then (λ t. run step t more) (step s a)

-- what the state after the whole text stands for, none where the text ends too early or sooner
abbrev pub result : {S A T : Type 0} → (S → A → Option S) → (S → Option T) → S → List A → Option T
result step final s text = option_and_then final (run step s text)

-- the machine reads the whole text from this state
abbrev pub IsRead : {S A T : Type 0} → (S → A → Option S) → (S → Option T) → S → List A → Type 0
IsRead {T = T} step final s text = (t : T) × (result step final s text ≡ Some t)

-- the same of the text after one symbol, and places counted from there
abbrev pub behind_one : {T : Type 0} → Result T ℕ → Result T ℕ
behind_one (Ok t) = Ok t
behind_one (Err at) = Err (suc at)

-- what the whole text stands for; else the place of the symbol at which the machine can't go on, or
-- the text's length where it ends too early
abbrev pub reading : {S A T : Type 0} → (S → A → Option S) → (S → Option T) → S → List A
    → Result T ℕ
reading step final s [] = ok_or (final s) 0
reading step final s (a ∷ more) =
    option_map_or (λ t. behind_one (reading step final t more)) (step s a) (Err 0)
