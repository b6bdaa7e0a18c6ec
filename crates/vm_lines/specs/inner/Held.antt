-- What a buffer holds: words of the reader's inner contracts, which the public ones don't cite.
use Rattle.std.specs.Prelude.{◌≡◌, ℕ, List, ◌++◌, length, Option}
use Rattle.vm_outside.specs.Outside.{Gives}

-- what contracts see of a buffer
pub record Bytes : Type 0 where
  -- the present line
  pub line : List ℕ
  -- the bytes that were read and stand behind it
  pub ahead : List ℕ
  -- for how many more bytes there is room behind those
  pub room : ℕ

-- n bytes of a source came behind those that were held
pub record HasRead (before now : List ℕ) (n : ℕ) (left_before left_now : Option (List ℕ)) :
    Type 0 where
  pub piece : List ℕ
  pub many : length piece ≡ n
  pub behind : now ≡ before ++ piece
  pub gives : Gives left_before piece left_now
