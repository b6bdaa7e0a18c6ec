-- What a command promises.
use Rattle.std.specs.Prelude.{ℕ, ◌^◌, ◌<◌, ◌≤◌, Bool, List, length}

-- Of each command one record. `now` is what the clock says, `input` the bytes of its input, `left`
-- those of them that were not taken, and `text` what is written.
pub record Promise : Type 1 where
  -- whether it reads the clock, which it does once
  pub reads_clock : Bool
  -- the answer over an input
  pub answers : (now : ℕ) (input text : List ℕ) → Type 0
  -- what is due by the time that the output fails, of which a first part is written
  pub owes : (now : ℕ) (input text : List ℕ) → Type 0
  -- what is written by the time that it refuses its input
  pub refuses : (left input text : List ℕ) → Type 0
  -- what is written by the time that it stops, where the input fails or memory runs out
  pub stops : (left input text : List ℕ) → Type 0

-- the input has an end that is met
abbrev pub IsShort : List ℕ → Type 0
IsShort input = length input < 2 ^ 62

-- the input has too many bytes for its end to be met
abbrev pub IsTooLong : List ℕ → Type 0
IsTooLong input = 2 ^ 62 ≤ length input
