-- What a store means: one list of accepted batches, and the runs of queries that are open. It has
-- no files, blocks or merges. Whatever keeps the samples answers as this machine does. A question
-- may be of any kind: what questions mean is an argument.
use Rattle.std.specs.Prelude.{◌≡◌, ℕ, ◌+◌, ◌==◌, ◌||◌, ◌&&◌, nat_lt, nat_le, not, Bool, true, false, List, [], ◌∷◌, ◌++◌, length, take, drop, filter, map, flat_map, Option, Some, None, Result, Ok, Err, if◌then◌else◌}
use Rattle.std.specs.List.{find}
use Rattle.std.specs.Option.{is_some}
use Rattle.vm_labels.specs.declared.pair.Pair.{Pair}
use Rattle.vm_labels.specs.declared.row.Batch.{Batch}
use Rattle.vm_labels.specs.declared.row.Row.{Row}
use Rattle.vm_machine.specs.Batches.{row_count}
use Rattle.vm_machine.specs.declared.refusal.Refusal.{Refusal}
use Rattle.vm_machine.specs.declared.refusal.Refusal.TheVariants as refusal
use Rattle.vm_machine.specs.declared.run.Run.{Run}

-- what questions mean: the label sets that one selects of rows, in order and each once, and what it
-- comes to over rows, by the interval of deduplication in ms
pub record Meaning (Q A : Type 0) : Type 0 where
  pub selects : Q → List Row → List (List Pair)
  pub comes_to : ℕ → Q → List Row → A

-- the batches in the order in which they were accepted, how many of the first of them would survive
-- a stop, the interval of deduplication in ms, and the open runs in the order of their opening
pub record State (Q : Type 0) : Type 0 where
  pub accepted : List Batch
  pub durable : ℕ
  pub interval : ℕ
  pub runs : List (Run Q)

-- the rows of batches
abbrev pub rows_of : List Batch → List Row
rows_of batches = flat_map (λ batch. batch.rows) batches

-- the batches that a stop would lose
abbrev pub pending : {Q : Type 0} → State Q → List Batch
pending state = drop state.durable state.accepted

-- whether a batch finds no room among those that are pending
abbrev pub is_full : {Q : Type 0} → State Q → Batch → Bool
is_full state batch =
    nat_lt 4194304 (row_count (pending state) + length batch.rows)
    || nat_le 4096 (length (pending state))

-- the run of a number
abbrev pub run_of : {Q : Type 0} → ℕ → List (Run Q) → Option (Run Q)
run_of number runs = find (λ run. run.number == number) runs

-- the runs but for that of a number
abbrev pub without_run : {Q : Type 0} → ℕ → List (Run Q) → List (Run Q)
without_run number runs = filter (λ run. not (run.number == number)) runs

-- a run, which has read one series more where it is that of the number and a series was left
abbrev pub read_more : {Q : Type 0} → ℕ → Run Q → Run Q
read_more number run =
    if run.number == number && nat_lt run.read run.series then record run { read = run.read + 1 }
    else run

-- the rows that a run sees: those that were accepted when it was opened
abbrev pub seen : {Q : Type 0} → State Q → Run Q → List Row
seen state run = rows_of (take run.accepted state.accepted)

-- what can happen to a machine: a batch comes, a run of a question is opened, reads one series, is
-- ended or closed
pub data Event (Q : Type 0) : Type 0 where
  import : Batch → Event Q
  begin : ℕ → Q → Event Q
  read : ℕ → Event Q
  end : ℕ → Event Q
  close : ℕ → Event Q

-- what a machine answers: a batch was accepted, a run begun, a series read, none was left to read,
-- what a question comes to, a run closed
pub data Answer (A : Type 0) : Type 0 where
  accepted : Answer A
  begun : Answer A
  was_read : Answer A
  complete : Answer A
  values : A → Answer A
  closed : Answer A

-- a batch comes
abbrev pub import_step : {Q A : Type 0} → State Q → Batch → State Q × Result (Answer A) Refusal
import_step state batch =
    if is_full state batch then (state, Err refusal.PendingFull)
    else (record state { accepted = state.accepted ++ batch ∷ [] }, Ok accepted)

-- a run is opened over all that is accepted now
abbrev pub new_run : {Q A : Type 0} → Meaning Q A → State Q → ℕ → Q → Run Q
new_run meaning state number question = record {
  number = number;
  question = question;
  accepted = length state.accepted;
  series = length (meaning.selects question (rows_of state.accepted));
  read = 0;
}

abbrev pub begin_step : {Q A : Type 0} → Meaning Q A → Option (Run Q) → State Q → ℕ → Q
    → State Q × Result (Answer A) Refusal
begin_step meaning (Some run) state number question = (state, Err (refusal.RunTaken number))
begin_step meaning None state number question =
    if nat_le 64 (length state.runs) then (state, Err refusal.ViewsFull)
    else
    let run = new_run meaning state number question in
    (record state { runs = state.runs ++ run ∷ [] }, Ok begun)

abbrev pub read_step : {Q A : Type 0} → Option (Run Q) → State Q → ℕ
    → State Q × Result (Answer A) Refusal
read_step None state number = (state, Err (refusal.UnknownRun number))
read_step (Some run) state number =
    if nat_lt run.read run.series then
    (record state { runs = map (read_more number) state.runs }, Ok was_read)
    else (state, Ok complete)

abbrev pub without : {Q : Type 0} → State Q → ℕ → State Q
without state number = record state { runs = without_run number state.runs }

abbrev pub end_step : {Q A : Type 0} → Meaning Q A → Option (Run Q) → State Q → ℕ
    → State Q × Result (Answer A) Refusal
end_step meaning None state number = (state, Err (refusal.UnknownRun number))
end_step meaning (Some run) state number =
    let answer = meaning.comes_to state.interval run.question (seen state run) in
    (without state number, Ok (values answer))

abbrev pub close_step : {Q A : Type 0} → Option (Run Q) → State Q → ℕ
    → State Q × Result (Answer A) Refusal
close_step None state number = (state, Err (refusal.UnknownRun number))
close_step (Some run) state number = (without state number, Ok closed)

-- the state after an event, and the answer
abbrev pub step : {Q A : Type 0} → Meaning Q A → State Q → Event Q
    → State Q × Result (Answer A) Refusal
step meaning state (import batch) = import_step state batch
step meaning state (begin number question) =
    begin_step meaning (run_of number state.runs) state number question
step meaning state (read number) = read_step (run_of number state.runs) state number
step meaning state (end number) = end_step meaning (run_of number state.runs) state number
step meaning state (close number) = close_step (run_of number state.runs) state number

-- Where memory may run out, and what that leaves. A batch that finds room and a run whose number is
-- free leave all as it was; a run that was to end is gone. Nothing else takes memory.
abbrev pub IsOutOfMemory : {Q : Type 0} → State Q → Event Q → State Q → Type 0
IsOutOfMemory state (import batch) now = (is_full state batch ≡ false) × (now ≡ state)
IsOutOfMemory state (begin number question) now = (run_of number state.runs ≡ None) × (now ≡ state)
IsOutOfMemory state (end number) now =
    (is_some (run_of number state.runs) ≡ true) × (now ≡ without state number)
IsOutOfMemory state (read number) now = ⊥
IsOutOfMemory state (close number) now = ⊥

-- what comes of an event: the machine's own answer, or that memory ran out
abbrev pub Steps : {Q A : Type 0} → Meaning Q A → State Q → Event Q
    → State Q → Result (Answer A) Refusal → Type 0
Steps meaning before event now (Err refusal.Memory) = IsOutOfMemory before event now
Steps meaning before event now answer = (now, answer) ≡ step meaning before event

-- what a call gives, as an answer of the machine
abbrev pub as_answer : {X A : Type 0} → (X → Answer A) → Result X Refusal
    → Result (Answer A) Refusal
as_answer answer (Ok given) = Ok (answer given)
as_answer answer (Err why) = Err why
