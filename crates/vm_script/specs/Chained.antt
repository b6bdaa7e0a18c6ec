-- Readings one after the other: none where one of them gives none.
use Rattle.std.specs.Prelude.{Option}
use Rattle.std.specs.Option.{option_and_then}

infixl 10 ◌>>=◌
-- one reading and then another, none where one of them gives none
abbrev pub ◌>>=◌ : {A B : Type 0} → Option A → (A → Option B) → Option B
read >>= further = option_and_then further read
