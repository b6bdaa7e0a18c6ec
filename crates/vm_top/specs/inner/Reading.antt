-- An input that is read line by line.
use Rattle.std.specs.Prelude.{◌≡◌, ℕ, ◌+◌, ◌<◌, ◌^◌, Bool, true, false, List, [], ◌++◌, length, ◌⊎◌, Option, Some, None}
use Rattle.vm_lines.specs.Feeds.{HasNoFeed}
use Rattle.vm_lines.specs.Lines.{is_too_long}
use Rattle.vm_lines.specs.Reading.{Reading, rest, to_go, EndsInFeed, IsFirstLine, IsSpent}
use Rattle.vm_lines.specs.declared.step.Step.{Step}
use Rattle.vm_lines.specs.declared.step.Step.TheVariants.{Line, TooLong, End}
use Rattle.vm_outside.specs.Outside.{Gives}

-- what contracts see of the lines of an input: the reader, and how many lines were read
pub record Place : Type 0 where
  pub reading : Reading
  pub number : ℕ

-- what is still to be read
abbrev pub unread : Place → Option (List ℕ) → Option (List ℕ)
unread place left = rest place.reading left

-- more bytes may have been taken, and each was counted
pub record Takes (before after : Place) (left_before left_after : Option (List ℕ)) : Type 0 where
  pub piece : List ℕ
  pub gives : Gives left_before piece left_after
  pub counted : after.reading.taken ≡ before.reading.taken + length piece

-- the line that was come to: the one that is shown, or one that is too long to be shown
abbrev pub IsLineOf : Step → List ℕ → List ℕ → Type 0
IsLineOf Line shown line = line ≡ shown
IsLineOf TooLong shown line = is_too_long line ≡ true
IsLineOf End shown line = ⊥

-- the next line was come to
pub record HasLine (step : Step) (before after : Place) (left_before left_after : Option (List ℕ)) :
    Type 0 where
  pub line : List ℕ
  pub is : IsLineOf step after.reading.line line
  pub first : IsFirstLine (unread before left_before) line (unread after left_after)
  pub counted : after.number ≡ before.number + 1
  pub nearer : to_go after.reading < to_go before.reading
  pub unended : before.reading.ended ≡ false

-- the input's end was come to
pub record IsAtEnd (before after : Place) (left_before left_after : Option (List ℕ)) : Type 0 where
  pub end : IsSpent (unread before left_before)
  pub spent : IsSpent left_after
  pub few : after.reading.taken < 2 ^ 62

abbrev pub Comes : Option Step → Place → Place → Option (List ℕ) → Option (List ℕ) → Type 0
Comes None before after left_before left_after = IsAtEnd before after left_before left_after
Comes (Some step) before after left_before left_after =
    HasLine step before after left_before left_after

-- a place of which nothing was read
abbrev pub first_place : Place
first_place =
    record { reading = record { line = []; ahead = []; taken = 0; ended = false }; number = 0 }

-- bytes that whole lines have: none, some that a line feed ends, or all up to the end of the input
abbrev pub AreWhole : List ℕ → Bool → Type 0
AreWhole through ended = (through ≡ []) ⊎ (EndsInFeed through ⊎ (ended ≡ true))

-- the reader went over the bytes of whole lines
pub record GoesOver (before after : Place) (left_before left_after : Option (List ℕ)) : Type 0 where
  pub piece : List ℕ
  pub gives : Gives left_before piece left_after
  pub through : List ℕ
  pub goes : before.reading.ahead ++ piece ≡ through ++ after.reading.ahead
  pub whole : AreWhole through after.reading.ended
  pub stays : before.reading.ended ≡ true → after.reading.ended ≡ true

-- no whole line came, and the end of the input wasn't met
pub record StopsAt (before : Place) (left_before left_after : Option (List ℕ)) : Type 0 where
  pub piece : List ℕ
  pub gives : Gives left_before piece left_after
  pub clear : HasNoFeed (before.reading.ahead ++ piece)
  pub unended : before.reading.ended ≡ false
