-- Where words go wrong, and why.
use Rattle.std.specs.Prelude.{◌≡◌, ℕ, zero, suc, ◌<◌, Bool, true, false, List, [], ◌∷◌, length, take}
use Rattle.vm_base.specs.FirstWrong.{Begins, FirstWrong}
use Rattle.mql_lists.specs.Words.{Word}
use Rattle.mql_lists.specs.Classes.{class_of_word}
use Rattle.mql_lists.specs.declared.class.Class.{Class}
use Rattle.mql_parse.specs.Grammar.{IsExpr, IsAnyExpr}

-- the place of a word in the text, or the text's length where there is none
abbrev pub place_of : (len : ℕ) → List Word → ℕ → ℕ
place_of len [] index = len
place_of len (w ∷ words) zero = w.at
place_of len (w ∷ words) (suc index) = place_of len words index

-- a number or a duration
abbrev pub is_measure : Class → Bool
is_measure Class.Numeral = true
is_measure Class.Time = true
is_measure _ = false

-- whether the word at an index is one
abbrev pub measures_at : List Word → ℕ → Bool
measures_at [] index = false
measures_at (w ∷ words) zero = is_measure (class_of_word w)
measures_at (w ∷ words) (suc index) = measures_at words index

-- The first word with which the words so far begin no expression is here, and without limits they
-- begin none either. Or the words end too early.
pub record IsUnexpected (len : ℕ) (words : List Word) (at : ℕ) : Type 0 where
  pub index : ℕ
  pub place : at ≡ place_of len words index
  pub first : FirstWrong (IsExpr len) words index
  pub without_limits : FirstWrong IsAnyExpr words index

-- The first word with which the words so far begin no expression is here, and without limits they
-- begin one. `measure` says whether it is a number or a duration.
pub record IsBeyond (measure : Bool) (len : ℕ) (words : List Word) (at : ℕ) : Type 0 where
  pub index : ℕ
  pub place : at ≡ place_of len words index
  pub inside : index < length words
  pub first : FirstWrong (IsExpr len) words index
  pub without_limits : Begins IsAnyExpr (take (suc index) words)
  pub kind : measures_at words index ≡ measure
