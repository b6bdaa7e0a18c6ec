-- Where line feeds stand.
use Rattle.std.specs.Prelude.{◌≡◌, ℕ, ◌<◌, ◌==◌, false, List, [], ◌∷◌, length, take, slice_index}

-- no byte is a line feed
abbrev pub HasNoFeed : List ℕ → Type 0
HasNoFeed [] = Unit {0}
HasNoFeed (byte ∷ more) = ((byte == 10) ≡ false) × HasNoFeed more

-- the byte at this place is the first line feed
pub record IsFirstFeed (bytes : List ℕ) (at : ℕ) : Type 0 where
  pub within : at < length bytes
  pub feed : slice_index bytes at ≡ 10
  pub clear : HasNoFeed (take at bytes)
