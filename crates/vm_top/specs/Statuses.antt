-- What was done by the time that the program ends, by its status.
use Rattle.std.specs.Prelude.{◌≡◌, ℕ, ◌≤◌, Bool, true, false, List, [], ◌++◌, length, take, codes, decimal, ◌⊎◌, Option, Some, None, Result, Ok, Err, ⊤}
use Rattle.std.specs.Option.{option_map}
use Rattle.vm_lines.specs.Lines.{lines}
use Rattle.vm_outside.specs.Clock.{Answers}
use Rattle.vm_outside.specs.Outside.{Rose, Takes, Told}
use Rattle.vm_top.specs.Last.{last_promise}
use Rattle.vm_top.specs.Promise.{Promise, IsShort, IsTooLong}
use Rattle.vm_top.specs.Replay.{replay_promise}
use Rattle.vm_top.specs.Script.{IsBadAt}
use Rattle.vm_top.specs.Words.{Task, last, replay}
use Rattle.vm_top.specs.World.{World}
use Rattle.vm_top.specs.declared.fault.Fault.{Fault}
use Rattle.vm_top.specs.declared.fault.Fault.TheVariants.{Usage, InputTooLong, BadLine, Input, Output, Memory}
use Rattle.vm_top.specs.declared.status.Status.{Status}
use Rattle.vm_top.specs.declared.status.Status.TheVariants as code

-- what each command promises
abbrev pub promise_of : Task → Promise
promise_of (last name time) = last_promise name time
promise_of replay = replay_promise

-- the clock was read once and said `now`, or not at all
abbrev pub IsClocked : Bool → ℕ → Option (List ℕ) → Option (List ℕ) → Type 0
IsClocked true now before after = Answers before now after
IsClocked false now before after = after ≡ before

-- a text of this kind was written, and nothing else
abbrev pub Wrote : (List ℕ → List ℕ → Type 0) → Option (List ℕ) → Option (List ℕ) → List ℕ → Type 0
Wrote Is before after input = (text : List ℕ) × Is input text × Takes before text after

-- the answer was written, and nothing else
pub record IsAnswered (promise : Promise) (now : ℕ) (before after : Option (List ℕ))
    (input : List ℕ) : Type 0 where
  pub short : IsShort input
  pub text : List ℕ
  pub answers : promise.answers now input text
  pub written : Takes before text after

-- a first part of what was due was written, and nothing else
pub record IsAnsweredInPart (promise : Promise) (now : ℕ) (before after : Option (List ℕ))
    (input : List ℕ) : Type 0 where
  pub text : List ℕ
  pub due : promise.owes now input text
  pub part : ℕ
  pub within : part ≤ length text
  pub written : Takes before (take part text) after

-- What was done of a promise, from one world to another, by the time that the program ends with a
-- status.
pub record IsDone (promise : Promise) (status : Status) (before after : World) : Type 0 where
  pub now : ℕ
  pub clock : IsClocked promise.reads_clock now before.clock after.clock
  -- 0: it answered, and read the input to its end
  pub answered : status ≡ code.Ok
      → Told before.input (IsAnswered promise now before.output after.output)
  pub read : status ≡ code.Ok → after.input ≡ option_map (λ _. []) before.input
  -- 1: it refused its input
  pub refused : status ≡ code.Refused → Told before.input (λ input. Told after.input (λ left.
      Wrote (promise.refuses left) before.output after.output input))
  -- 3: memory ran out, and this is what it would have written had the input failed somewhere
  pub stopped : status ≡ code.Memory → Told before.input
      (Wrote (λ input text. (left : List ℕ) × promise.stops left input text) before.output
      after.output)
  -- 6: the input failed, and counted that
  pub failed : status ≡ code.InputFault → Told before.input (λ input. Told after.input (λ left.
      Wrote (promise.stops left) before.output after.output input))
  pub input_fault : status ≡ code.InputFault → Rose before.input_faults after.input_faults
  -- 7: the output failed, and counted that
  pub part : status ≡ code.OutputFault
      → Told before.input (IsAnsweredInPart promise now before.output after.output)
  pub output_fault : status ≡ code.OutputFault → Rose before.output_faults after.output_faults
  -- no other status is given
  pub known : (status ≡ code.Ok) ⊎ (status ≡ code.Refused) ⊎ (status ≡ code.Memory)
      ⊎ (status ≡ code.InputFault) ⊎ (status ≡ code.OutputFault)

-- what the words ask for was done; words that are no command are `Usage`, and change nothing
abbrev pub IsDoneBy : Option Task → Status → World → World → Type 0
IsDoneBy None status before after = (status ≡ code.Usage) × (after ≡ before)
IsDoneBy (Some task) status before after = IsDone (promise_of task) status before after

-- why a fault comes, as far as the words and the input tell
abbrev pub IsCause : Fault → Option Task → List ℕ → Type 0
IsCause Usage task input = task ≡ None
IsCause InputTooLong task input = IsTooLong input
IsCause (BadLine number) task input = (task ≡ Some replay) × IsBadAt number (lines input)
IsCause _ task input = ⊤

-- the status of a fault
abbrev pub status_of : Fault → Status
status_of Usage = code.Usage
status_of InputTooLong = code.Refused
status_of (BadLine number) = code.Refused
status_of Input = code.InputFault
status_of Output = code.OutputFault
status_of Memory = code.Memory

-- the status of a run
abbrev pub outcome : {A : Type 0} → Result A Fault → Status
outcome (Ok done) = code.Ok
outcome (Err fault) = status_of fault

-- the text of a fault
abbrev pub text_of : Fault → List ℕ
text_of Usage = codes "usage"
text_of InputTooLong = codes "input too long"
text_of (BadLine number) = codes "bad script line " ++ decimal number
text_of Input = codes "input fault"
text_of Output = codes "output fault"
text_of Memory = codes "out of memory"

-- the line that says it
abbrev pub note_of : Fault → List ℕ
note_of fault = codes "vmsingle: " ++ text_of fault ++ codes "\n"

-- a line was written, or a first part of it where the count of faults rose
pub record IsNote (line : List ℕ) (before now : Option (List ℕ)) (faults_before faults_now : ℕ) :
    Type 0 where
  pub part : ℕ
  pub whole : (part ≡ length line) ⊎ Rose faults_before faults_now
  pub written : Takes before (take part line) now

-- nothing is noted of what went well; of all else a line that says a fault, which has this status
-- and whose cause holds
abbrev pub IsNoted : Status → Option Task → Option (List ℕ) → Option (List ℕ) → Option (List ℕ)
    → ℕ → ℕ → Type 0
IsNoted status task input before now faults_before faults_now =
    ((status ≡ code.Ok) × (now ≡ before))
    ⊎ ((fault : Fault) × (status ≡ status_of fault) × Told input (IsCause fault task)
    × IsNote (note_of fault) before now faults_before faults_now)
