-- Where a text leaves words.
use Rattle.std.specs.Prelude.{ℕ, suc, ◌==◌, ◌&&◌, max, List, [], ◌∷◌, length, Option, Some, None, option_and_then, option_map, if◌then◌else◌}
use Rattle.std.specs.Char.{to_ascii_lowercase}

-- how many bytes a word and a text in any case have in common at their fronts
abbrev pub common : List ℕ → List ℕ → ℕ
common [] text = 0
common (w ∷ word) [] = 0
common (w ∷ word) (b ∷ text) =
    let more = suc (common word text) in
    if to_ascii_lowercase b == w then more else 0

-- where a text leaves a word, none where it is the word
abbrev pub wrong_word : List ℕ → List ℕ → Option ℕ
wrong_word word text =
    if common word text == length word && common word text == length text then None
    else Some (common word text)

-- the last place at which it leaves one of some words, none where it is one
abbrev pub wrong_among : List (List ℕ) → List ℕ → Option ℕ
wrong_among [] text = Some 0
wrong_among (word ∷ words) text =
    option_and_then (λ at. option_map (λ far. max at far) (wrong_among words text))
    (wrong_word word text)
