-- The first wrong place of a text, for any symbols and any language.
use Rattle.std.specs.Prelude.{◌≡◌, ℕ, suc, ◌<◌, ◌≤◌, List, ◌++◌, length, take}

-- the text so far goes on to a text of the language
abbrev pub Begins : {A : Type 0} → (List A → Type 0) → List A → Type 0
Begins {A} L text = (more : List A) × L (text ++ more)

-- the place of the first symbol with which the text so far begins no text of the language, or the
-- length of a text that ends too early
pub record FirstWrong {A : Type 0} (L : List A → Type 0) (text : List A) (at : ℕ) : Type 0 where
  pub within : at ≤ length text
  pub begins : Begins L (take at text)
  pub wrong : at < length text → Begins L (take (suc at) text) → ⊥
  pub short : at ≡ length text → L text → ⊥
