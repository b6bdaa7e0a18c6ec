-- An input that is read line by line.
use Rattle.std.specs.Prelude.{◌≡◌, ℕ, ◌+◌, ◌-◌, ◌<◌, ◌^◌, Bool, true, false, List, [], ◌∷◌, ◌++◌, length, Option, Result, Ok, Err, ◌⊎◌}
use Rattle.std.specs.Option.{option_map}
use Rattle.vm_base.specs.declared.limits.TheConstants.{MAX_IMPORT_LINE}
use Rattle.vm_outside.specs.Outside.{Gives}
use Rattle.vm_lines.specs.Feeds.{HasNoFeed}
use Rattle.vm_lines.specs.Lines.{lines, is_too_long}
use Rattle.vm_lines.specs.declared.fault.LineFault.{LineFault}
use Rattle.vm_lines.specs.declared.step.Step.{Step}
use Rattle.vm_lines.specs.declared.step.Step.TheVariants.{Line, TooLong, End}

-- what contracts see of a reader
pub record Reading : Type 0 where
  -- the line that the last call came to
  pub line : List ℕ
  -- the bytes that were taken from the source and stand behind that line
  pub ahead : List ℕ
  -- how many bytes were taken from the source
  pub taken : ℕ
  -- whether the end of the source was met
  pub ended : Bool

-- what is still to be read: the bytes ahead, and what the source has left, where it tells that
abbrev pub rest : Reading → Option (List ℕ) → Option (List ℕ)
rest reading left = option_map (λ bytes. reading.ahead ++ bytes) left

-- this line is the first of what was to be read, and the other lines are still to be read
abbrev pub IsFirstLine : Option (List ℕ) → List ℕ → Option (List ℕ) → Type 0
IsFirstLine before line now =
    option_map lines before ≡ option_map (λ bytes. line ∷ lines bytes) now

-- nothing is left, where that is told
abbrev pub IsSpent : Option (List ℕ) → Type 0
IsSpent left = left ≡ option_map (λ _. []) left

-- a reader that met the end holds a source of which nothing is left, and took less than 2^62 bytes
-- of it
abbrev pub KnowsEnd : Reading → Option (List ℕ) → Type 0
KnowsEnd reading left = reading.ended ≡ true → IsSpent left × (reading.taken < 2 ^ 62)

-- What a call came to: the first line of what was to be read, a first line that is too long and
-- isn't shown, or the end of the input, which was met before 2^62 bytes were taken.
abbrev pub Reads : Step → Reading → Reading → Option (List ℕ) → Option (List ℕ) → Type 0
Reads Line before now left_before left_now =
    (is_too_long now.line ≡ false)
    × IsFirstLine (rest before left_before) now.line (rest now left_now)
Reads TooLong before now left_before left_now =
    (line : List ℕ) × (is_too_long line ≡ true)
    × IsFirstLine (rest before left_before) line (rest now left_now)
Reads End before now left_before left_now =
    (before.ahead ≡ []) × (now.ahead ≡ []) × (left_now ≡ left_before) × IsSpent left_now
    × (now.taken < 2 ^ 62)

-- how many more bytes may be gone through
abbrev pub to_go : Reading → ℕ
to_go reading = 2 ^ 62 - (reading.taken - length reading.ahead)

-- a call that doesn't come to the end comes nearer to it
abbrev pub GoesOn : Step → Reading → Reading → Type 0
GoesOn Line before now = to_go now < to_go before
GoesOn TooLong before now = to_go now < to_go before
GoesOn End before now = Unit {0}

-- What a call does to the bytes: a piece came from the source, and the bytes up to the new place
-- were gone through. None is lost, and none comes twice.
pub record Moves (before now : Reading) (left_before left_now : Option (List ℕ)) (through : List ℕ)
    : Type 0 where
  pub piece : List ℕ
  pub gives : Gives left_before piece left_now
  pub counted : now.taken ≡ before.taken + length piece
  pub behind : before.ahead ++ piece ≡ through ++ now.ahead

-- bytes that a line feed ends
abbrev pub EndsInFeed : List ℕ → Type 0
EndsInFeed bytes = (front : List ℕ) × (bytes ≡ front ++ 10 ∷ [])

-- some bytes that a line feed ends, or the end of the input
abbrev pub EndsLine : List ℕ → Bool → Type 0
EndsLine through ended = (0 < length through) × (EndsInFeed through ⊎ (ended ≡ true))

-- How much a call goes through: the bytes up to the end of a line, none at the end of the input. An
-- error goes through none but those of a line that is too long and has no end in them.
abbrev pub GoesThrough : Result Step LineFault → Bool → List ℕ → Type 0
GoesThrough (Ok Line) ended through = EndsLine through ended
GoesThrough (Ok TooLong) ended through = EndsLine through ended
GoesThrough (Ok End) ended through = through ≡ []
GoesThrough (Err fault) ended through =
    (through ≡ []) ⊎ (HasNoFeed through × (MAX_IMPORT_LINE + 1 < length through))
