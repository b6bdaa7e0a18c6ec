-- What a script does to a machine of one list, and what it prints.
use Rattle.std.specs.Prelude.{◌≡◌, ℕ, nat_lt, length, false, List, [], ◌∷◌, ◌++◌, map, count_by, ◌⊎◌, Option, Some, None, Result, Ok, Err, ⊤, if◌then◌else◌}
use Rattle.std.specs.List.{AllByRecursion}
use Rattle.std.specs.Option.{is_none}
use Rattle.vm_labels.specs.declared.row.Batch.{Batch}
use Rattle.vm_labels.specs.declared.row.Row.{Row}
use Rattle.vm_labels.specs.declared.selector.Selector.{Selector}
use Rattle.vm_lines.specs.Feeds.{HasNoFeed}
use Rattle.vm_lines.specs.Lines.{lines}
use Rattle.vm_lines.specs.Reading.{EndsInFeed}
use Rattle.vm_machine.specs.Batches.{batches_of, row_count}
use Rattle.vm_machine.specs.Eval.{instant}
use Rattle.vm_machine.specs.Machine.{State as StateOf, Event, import, begin, read, end, close, Answer, accepted, run_of, Steps}
use Rattle.vm_machine.specs.declared.question.Evaluated.{Evaluated}
use Rattle.vm_machine.specs.declared.question.Question.{Question}
use Rattle.vm_machine.specs.declared.refusal.Refusal.{Refusal}
use Rattle.vm_machine.specs.declared.refusal.Refusal.TheVariants.{RunTaken, Memory}
use Rattle.vm_machine.specs.declared.run.Run.{Run as OpenRun}
use Rattle.vm_script.specs.Command.{command_of}
use Rattle.vm_script.specs.Expression.{selector_of}
use Rattle.vm_script.specs.declared.command.Command.{Command}
use Rattle.vm_script.specs.declared.command.Command.TheVariants.{Import, Query, Run, End, Close}
use Rattle.vm_script.specs.declared.command.Format.{Format}
use Rattle.vm_top.specs.Printed.{printed, accepted_line, bad_query_line, refused_line}
use Rattle.vm_top.specs.Promise.{Promise, IsTooLong}
use Rattle.vm_top.specs.Rows.{LinesMean, or_none}
use Rattle.vm_top.specs.declared.query_fault.QueryFault.{QueryFault}
use Rattle.vm_top.specs.declared.query_fault.QueryFault.TheVariants.{BadRange, NotBuilt}
use Rattle.vm_top.specs.Script.{Entry, IsEntry, AreWithin, Begins, IsScript, Breaks, script_lines}

-- a machine that takes instant queries
abbrev pub State : Type 0
State = StateOf Question

-- a machine to which nothing happened yet
abbrev pub blank : State
blank = record { accepted = []; durable = 0; interval = 0; runs = [] }

-- the question for a selector, if there is one
abbrev pub asked_of : ℕ → Option Selector → Result Question QueryFault
asked_of time None = Err NotBuilt
asked_of time (Some selector) = Ok (record { time = time; selector = selector })

-- the question of a query, where its time is at most 2^48 - 1 and its expression can be read
abbrev pub question_of : ℕ → List ℕ → Result Question QueryFault
question_of time expression =
    if nat_lt 281474976710655 time then Err BadRange else asked_of time (selector_of expression)

-- the machine does what an event asks, and its answer is printed
pub record Answers (run : ℕ) (event : Event Question) (before now : State) (text : List ℕ) :
    Type 0 where
  pub answer : Result (Answer Evaluated) Refusal
  pub steps : Steps instant before event now answer
  pub text_is : text ≡ printed run answer

-- what is printed of a query that asks for nothing: that its run is taken, or else what is wrong
-- with it, unless memory runs out while it is read
abbrev pub IsToldOf : QueryFault → ℕ → Option (OpenRun Question) → List ℕ → Type 0
IsToldOf fault run (Some taken) text = text ≡ refused_line (RunTaken run)
IsToldOf fault run None text = (text ≡ bad_query_line fault) ⊎ (text ≡ refused_line Memory)

-- a query is begun where it asks for something, and else changes nothing
abbrev pub Asks : ℕ → Result Question QueryFault → State → State → List ℕ → Type 0
Asks run (Ok question) before now text = Answers run (begin run question) before now text
Asks run (Err fault) before now text = (now ≡ before)
    × IsToldOf fault run (run_of run before.runs) text

-- batches are accepted, one after the other
pub data Accepts : State → List Batch → State → Type 0 where
  no_batch : (state : State) → Accepts state [] state
  next_batch : (before mid now : State) (batches : List Batch) (batch : Batch)
      → Accepts before batches mid
      → Steps instant mid (import batch) now (Ok accepted)
      → Accepts before (batches ++ batch ∷ []) now

-- batches are accepted up to one that is refused
pub record Refuses (before : State) (batches : List Batch) (now : State) (why : Refusal) :
    Type 0 where
  pub first : List Batch
  pub batch : Batch
  pub more : List Batch
  pub are : batches ≡ first ++ batch ∷ more
  pub mid : State
  pub accepts : Accepts before first mid
  pub steps : Steps instant mid (import batch) now (Err why)

-- the batches of lines that mean this
abbrev pub batches : List (Option (List Row)) → List Batch
batches said = batches_of (map or_none said)

-- how many of the lines are skipped
abbrev pub skipped : List (Option (List Row)) → ℕ
skipped said = count_by is_none said

-- the batches of lines that mean this come, all of them or up to the first that is refused
pub data BatchesCome (said : List (Option (List Row))) (before : State) : State → List ℕ
    → Type 0 where
  all_accepted : (now : State) → Accepts before (batches said) now
      → BatchesCome said before now
      (accepted_line (length (batches said)) (row_count (batches said)) (skipped said))
  one_refused : (now : State) (why : Refusal) → Refuses before (batches said) now why
      → BatchesCome said before now (refused_line why)

-- a body is imported whose lines are of a format and read at a time
abbrev pub Imports : Format → ℕ → List (List ℕ) → State → State → List ℕ → Type 0
Imports format time body before now text =
    (said : List (Option (List Row))) × LinesMean format time body said
    × BatchesCome said before now text

-- a command with a body is done, and this is printed
abbrev pub Does : Command → List (List ℕ) → State → State → List ℕ → Type 0
Does (Import format time) body before now text = Imports format time body before now text
Does (Query run time expression) body before now text =
    Asks run (question_of time expression) before now text
Does (Run run) body before now text = Answers run (read run) before now text
Does (End run) body before now text = Answers run (end run) before now text
Does (Close run) body before now text = Answers run (close run) before now text

abbrev pub Acts : Entry → State → State → List ℕ → Type 0
Acts entry before now text = Does entry.command entry.body before now text

-- from a state on commands are done, one after the other, and this is printed
pub data Plays (before : State) : List Entry → State → List ℕ → Type 0 where
  no_command : Plays before [] before []
  next_command : (entries : List Entry) (entry : Entry) (mid now : State) (texts text : List ℕ)
      → Plays before entries mid texts → Acts entry mid now text
      → Plays before (entries ++ entry ∷ []) now (texts ++ text)

-- a text is what commands print on a machine to which nothing happened yet
abbrev pub IsPlayOf : List Entry → List ℕ → Type 0
IsPlayOf entries text = (now : State) × Plays blank entries now text

-- what all commands of a script print
abbrev pub IsPlayed : List (List ℕ) → List ℕ → Type 0
IsPlayed lines text = (entries : List Entry) × IsScript lines entries × IsPlayOf entries text

-- what the first commands of a script print
abbrev pub IsPlayedInPart : List (List ℕ) → List ℕ → Type 0
IsPlayedInPart lines text = (entries : List Entry) × Begins lines entries × IsPlayOf entries text

-- what all commands print before the first line outside the grammar
abbrev pub IsPlayedToBad : List (List ℕ) → List ℕ → Type 0
IsPlayedToBad lines text = (entries : List Entry) × Breaks lines entries × IsPlayOf entries text

-- these are the whole lines in bytes that were taken: those up to the last line feed
pub record Holds (taken : List ℕ) (whole : List (List ℕ)) : Type 0 where
  pub front : List ℕ
  pub tail : List ℕ
  pub parts : taken ≡ front ++ tail
  pub ends : (front ≡ []) ⊎ EndsInFeed front
  pub clear : HasNoFeed tail
  pub lines_are : whole ≡ lines front

-- no line, or an import with lines of its body, which has no end yet
abbrev pub IsOpen : List (List ℕ) → Type 0
IsOpen [] = ⊤
IsOpen (line ∷ body) =
    (format : Format) × (time : ℕ) × (command_of line ≡ Some (Import format time)) × AreWithin body

-- What all commands print whose lines stand whole in the bytes that were taken, and nothing else.
-- After them come at most an import and lines of its body.
pub record IsPlayedSoFar (taken text : List ℕ) : Type 0 where
  pub entries : List Entry
  pub are : AllByRecursion IsEntry entries
  pub more : List (List ℕ)
  pub holds : Holds taken (script_lines entries ++ more)
  pub waits : IsOpen more
  pub plays : IsPlayOf entries text

-- this is what was written by the time that so much of the input was left
abbrev pub IsPlayedBefore : List ℕ → List ℕ → List ℕ → Type 0
IsPlayedBefore left input text = (taken : List ℕ) × (input ≡ taken ++ left)
    × IsPlayedSoFar taken text

-- `replay` prints what the commands of its script print, one after the other. It refuses an input
-- that is too long, and a script with a line outside its grammar. It doesn't read the clock.
abbrev pub replay_promise : Promise
replay_promise = record {
  reads_clock = false;
  answers = λ now input text. IsPlayed (lines input) text;
  owes = λ now input text. IsPlayedInPart (lines input) text;
  refuses = λ left input text. (IsTooLong input × IsPlayedBefore left input text)
      ⊎ IsPlayedToBad (lines input) text;
  stops = IsPlayedBefore;
}
