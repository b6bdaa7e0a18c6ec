-- A script that is played line by line.
use Rattle.std.specs.Prelude.{◌≡◌, ℕ, ◌+◌, ◌^◌, ◌<◌, ◌≤◌, List, [], ◌∷◌, ◌++◌, length, take, map, codes, decimal, Option, Some, None, Result, Ok, Err, OnOk, OnErr, ⊤, ◌⊎◌, if◌then◌else◌}
use Rattle.std.specs.List.{AllByRecursion}
use Rattle.std.specs.Option.{option_map, is_none}
use Rattle.vm_lines.specs.Lines.{lines}
use Rattle.vm_lines.specs.Reading.{to_go}
use Rattle.vm_labels.specs.declared.row.Row.{Row}
use Rattle.vm_machine.specs.Batches.{Parted, batches_of, enough, with_more}
use Rattle.vm_machine.specs.declared.refusal.Refusal.TheVariants.{Memory as OutOfMemory}
use Rattle.vm_outside.specs.Outside.{Told, Takes}
use Rattle.vm_script.specs.declared.command.Command.{Command}
use Rattle.vm_script.specs.declared.command.Command.TheVariants.{Import}
use Rattle.vm_script.specs.declared.command.Format.{Format}
use Rattle.vm_script.specs.Command.{command_of}
use Rattle.vm_top.specs.Printed.{accepted_line, bad_query_line, refused_line}
use Rattle.vm_top.specs.Promise.{IsTooLong}
use Rattle.vm_top.specs.Reply.{reply}
use Rattle.vm_top.specs.Replay.{State, blank, skipped, Does, Plays, IsPlayedBefore, IsPlayedToBad, replay_promise}
use Rattle.vm_top.specs.Rows.{or_none}
use Rattle.vm_top.specs.inner.Said.{said}
use Rattle.vm_top.specs.Script.{Entry, IsEntry, HasBody, AreWithin, IsCutOff, IsBadAt, lines_after, script_lines}
use Rattle.vm_top.specs.Statuses.{IsAnswered, IsAnsweredInPart, Wrote}
use Rattle.vm_top.specs.inner.Reading.{Place, unread, GoesOver, StopsAt}
use Rattle.vm_top.specs.declared.fault.Fault.{Fault}
use Rattle.vm_top.specs.declared.fault.Fault.TheVariants.{Usage, InputTooLong, BadLine, Input, Output, Memory}
use Rattle.vm_top.specs.declared.response.Response.{Response}
use Rattle.vm_top.specs.declared.response.Response.TheVariants as response

-- these lines are the first of what was to be read, and the other lines are still to be read
abbrev pub Through : Option (List ℕ) → List (List ℕ) → Option (List ℕ) → Type 0
Through before passed now =
    option_map lines before ≡ option_map (λ bytes. passed ++ lines bytes) now

-- what is known of a body while its lines come: its rows in batches, and how many lines are skipped
pub record BodyOf : Type 0 where
  pub format : Format
  pub time : ℕ
  pub parted : Parted
  pub skipped : ℕ

-- the body of these lines, with more to come
pub record Gathers (body : BodyOf) (passed : List (List ℕ)) : Type 0 where
  pub batches : (more : List (List Row))
      → batches_of (map or_none (said body.format body.time passed) ++ more)
      ≡ with_more body.parted more
  pub skips : body.skipped ≡ skipped (said body.format body.time passed)
  pub few : length body.parted.held < enough

-- what one line more says came to a body: its rows, or that it is skipped
pub record Adds (rows : Option (List Row)) (before after : BodyOf) : Type 0 where
  pub format : after.format ≡ before.format
  pub time : after.time ≡ before.time
  pub comes : (more : List (List Row))
      → with_more before.parted (or_none rows ∷ more) ≡ with_more after.parted more
  pub skips : after.skipped ≡ before.skipped + (if is_none rows then 1 else 0)
  pub few : length after.parted.held < enough

-- lines were passed, each was counted, and none comes again
pub record Passes (passed : List (List ℕ)) (before now : Place)
    (left_before left_now : Option (List ℕ)) : Type 0 where
  pub through : Through (unread before left_before) passed (unread now left_now)
  pub counted : now.number ≡ before.number + length passed
  pub nearer : to_go now.reading ≤ to_go before.reading

-- a body was read with the line that ends it
pub record IsWhole (format : Format) (time : ℕ) (body : BodyOf) (before now : Place)
    (left_before left_now : Option (List ℕ)) : Type 0 where
  pub passed : List (List ℕ)
  pub within : AreWithin passed
  pub gathers : Gathers body passed
  pub same_format : body.format ≡ format
  pub same_time : body.time ≡ time
  pub passes : Passes (passed ++ codes "." ∷ []) before now left_before left_now

-- the input ended before the line that ends a body
abbrev pub IsCut : Place → Option (List ℕ) → Type 0
IsCut before left_before = Told (unread before left_before) (λ bytes. AreWithin (lines bytes))

-- a body was read, or the input ended within it
abbrev pub ReadsBody : Format → ℕ → Option BodyOf → Place → Place → Option (List ℕ)
    → Option (List ℕ) → Type 0
ReadsBody format time None before now left_before left_now = IsCut before left_before
ReadsBody format time (Some body) before now left_before left_now =
    IsWhole format time body before now left_before left_now

-- a command was done, whose body was read, and a text is what it prints
pub record PlaysCommand (command : Command) (before now : State) (at after : Place)
    (left_at left_after : Option (List ℕ)) (text : List ℕ) : Type 0 where
  pub body : List (List ℕ)
  pub has : HasBody command body
  pub does : Does command body before now text
  pub passes : Passes (lines_after command body) at after left_at left_after

-- the command of a line was done
pub record PlaysLine (line : List ℕ) (before now : State) (at after : Place)
    (left_at left_after : Option (List ℕ)) (text : List ℕ) : Type 0 where
  pub command : Command
  pub says : command_of line ≡ Some command
  pub plays : PlaysCommand command before now at after left_at left_after text

-- a fault of a line that says this command, if it says one: where it is that of the script, the
-- line is outside the grammar, and has the number of the place
abbrev pub IsBrokenBy : Fault → Option Command → Place → Option (List ℕ) → Type 0
IsBrokenBy (BadLine number) command at left_at =
    (number ≡ at.number) × Told (unread at left_at) (λ bytes. IsCutOff command (lines bytes))
IsBrokenBy _ command at left_at = ⊤

-- of the body of an import whole lines came that don't end it, and then no more whole line
pub record IsCutShort (command : Option Command) (at : Place)
    (left_at left_after : Option (List ℕ)) : Type 0 where
  pub format : Format
  pub time : ℕ
  pub imports : command ≡ Some (Import format time)
  pub passed : List (List ℕ)
  pub within : AreWithin passed
  pub mid : Place
  pub left_mid : Option (List ℕ)
  pub through : Through (unread at left_at) passed (unread mid left_mid)
  pub over : GoesOver at mid left_at left_mid
  pub stops : StopsAt mid left_mid left_after

-- where the input stopped within a command
abbrev pub BreaksOff : Fault → Option Command → Place → Option (List ℕ) → Option (List ℕ) → Type 0
BreaksOff Input command at left_at left_after = IsCutShort command at left_at left_after
BreaksOff InputTooLong command at left_at left_after = IsCutShort command at left_at left_after
BreaksOff _ command at left_at left_after = ⊤

-- a command can fail so
abbrev pub CanPlay : Fault → Type 0
CanPlay Usage = ⊥
CanPlay Output = ⊥
CanPlay _ = ⊤

-- the commands so far were done, and what they print was written
pub record HasPlayed (machine : State) (place : Place) (start left before after : Option (List ℕ)) :
    Type 0 where
  pub entries : List Entry
  pub are : AllByRecursion IsEntry entries
  pub texts : List ℕ
  pub plays : Plays blank entries machine texts
  pub through : Through start (script_lines entries) (unread place left)
  pub counted : place.number ≡ length (script_lines entries)
  pub written : Takes before texts after

-- how a script ends over an input, of which so much is left, and what was written by then
abbrev pub Ends : Result Unit Fault → Option (List ℕ) → Option (List ℕ) → Option (List ℕ) → List ℕ
    → Type 0
Ends (Ok done) left before after input = IsAnswered replay_promise 0 before after input
Ends (Err Output) left before after input = IsAnsweredInPart replay_promise 0 before after input
Ends (Err (BadLine number)) left before after input =
    IsBadAt number (lines input) × Wrote (λ whole. IsPlayedToBad (lines whole)) before after input
Ends (Err InputTooLong) left before after input =
    IsTooLong input × Told left (λ rest. Wrote (IsPlayedBefore rest) before after input)
Ends (Err Input) left before after input =
    Told left (λ rest. Wrote (IsPlayedBefore rest) before after input)
Ends (Err Memory) left before after input =
    Wrote (λ whole text. (rest : List ℕ) × IsPlayedBefore rest whole text) before after input
Ends (Err Usage) left before after input = ⊥

-- a text is what is written of a response; for a reply memory may run out
abbrev pub Prints : Response → List ℕ → Type 0
Prints (response.Accepted batches rows skipped) text = text ≡ accepted_line batches rows skipped
Prints (response.Begun run) text = text ≡ codes "run " ++ decimal run ++ codes "\n"
Prints response.Read text = text ≡ codes "read\n"
Prints response.Complete text = text ≡ codes "complete\n"
Prints (response.Values time values) text = (text ≡ reply time values)
    ⊎ (text ≡ refused_line OutOfMemory)
Prints response.Closed text = text ≡ codes "closed\n"
Prints (response.BadQuery fault) text = text ≡ bad_query_line fault
Prints (response.Refused why) text = text ≡ refused_line why

-- its time is at most 2^48 - 1
abbrev pub IsInRange : Response → Type 0
IsInRange (response.Values time values) = time < 2 ^ 48
IsInRange _ = ⊤

-- what is written of a response: all of its text, or a first part of it where the output failed
abbrev pub Writes : Response → Result Unit Fault → Option (List ℕ) → Option (List ℕ) → Type 0
Writes given result before after = (text : List ℕ) × Prints given text
    × OnOk result (Takes before text after)
    × OnErr result ((n : ℕ) × (n ≤ length text) × Takes before (take n text) after)
