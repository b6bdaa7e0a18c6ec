-- What a machine answers, and what is printed of it.
use Rattle.std.proofs.Common.{◌≡◌, ℕ, List, [], length, map, append-nil, Option, Some, None, Result, Ok, Err, IfOk, OnErr, true, false, refl, sym, ap, ◌∙◌, subst, inl, inr}
use Rattle.std.specs.Option.{is_some}
use Rattle.std.specs.Result.{is_ok, IsErrAnd}
use Rattle.vm_labels.specs.declared.row.Batch.{Batch}
use Rattle.vm_machine.specs.Batches.{batches_of, row_count, with_more}
use Rattle.vm_machine.specs.Eval.{instant}
use Rattle.vm_machine.specs.Machine.{Steps, run_of, begin, end, begin_step, end_step, values, without}
use Rattle.vm_machine.specs.declared.question.Evaluated.{Evaluated}
use Rattle.vm_machine.specs.declared.question.Question.{Question}
use Rattle.vm_machine.specs.declared.refusal.Refusal.{Refusal}
use Rattle.vm_machine.specs.declared.refusal.Refusal.TheVariants.{RunTaken, Memory}
use Rattle.vm_machine.specs.declared.run.Run.{Run}
use Rattle.vm_top.specs.inner.Playing.{BodyOf, Gathers, Prints}
use Rattle.vm_top.specs.Printed.{accepted_line, bad_query_line, refused_line}
use Rattle.vm_top.specs.Replay.{State, Answers, Asks, IsToldOf, Accepts, Refuses, Imports, BatchesCome, batches, all_accepted, one_refused}
use Rattle.vm_top.specs.Rows.{or_none}
use Rattle.vm_top.specs.inner.Said.{said}
use Rattle.vm_top.proofs.SaidLaws.{lines_mean}
use Rattle.vm_top.specs.declared.query_fault.QueryFault.{QueryFault}
use Rattle.vm_top.specs.declared.response.Response.TheVariants as response

-- a query of a run whose number is taken
pub asks_taken : (state : State) (run : ℕ) (asked : Result Question QueryFault) (text : List ℕ)
    → is_some (run_of run state.runs) ≡ true → text ≡ refused_line (RunTaken run)
    → Asks run asked state state text
asks_taken state run (Ok question) text some is =
    record { answer = Err (RunTaken run); steps = go (run_of run state.runs) some; text_is = is }
  where
    go : (there : Option (Run Question)) → is_some there ≡ true
        → (state, Err (RunTaken run)) ≡ begin_step instant there state run question
    go None some = absurd cc
    go (Some open_run) some = refl
asks_taken state run (Err fault) text some is = (refl, go (run_of run state.runs) some)
  where
    go : (there : Option (Run Question)) → is_some there ≡ true → IsToldOf fault run there text
    go None some = absurd cc
    go (Some open_run) some = is

pub none_there : (there : Option (Run Question)) → is_some there ≡ false → there ≡ None
none_there None is = refl
none_there (Some open_run) is = absurd cc

-- a query that asks for nothing
pub asks_nothing :
    (state : State) (run : ℕ) (asked : Result Question QueryFault) (fault : QueryFault)
    (text : List ℕ)
    → asked ≡ Err fault → run_of run state.runs ≡ None → text ≡ bad_query_line fault
    → Asks run asked state state text
asks_nothing state run asked fault text is free line =
    subst (λ given. Asks run given state state text) (sym is)
    (refl, subst (λ there. IsToldOf fault run there text) (sym free) (inl line))

-- a query for which there was no memory
pub asks_without_memory :
    (state : State) (run : ℕ) (asked : Result Question QueryFault) (text : List ℕ)
    → run_of run state.runs ≡ None → text ≡ refused_line Memory → Asks run asked state state text
asks_without_memory state run (Ok question) text free line =
    record { answer = Err Memory; steps = (free, refl); text_is = line }
asks_without_memory state run (Err fault) text free line =
    (refl, subst (λ there. IsToldOf fault run there text) (sym free) (inr line))

-- a query that asks for something
pub asks_question :
    (before now : State) (run : ℕ) (asked : Result Question QueryFault) (question : Question)
    (text : List ℕ)
    → asked ≡ Ok question → Answers run (begin run question) before now text
    → Asks run asked before now text
asks_question before now run asked question text is answers =
    subst (λ given. Asks run given before now text) (sym is) answers

-- the reply to a run that ended, or that there was no memory for it
pub ended : (before now : State) (number : ℕ) (evaluated : Evaluated) (text : List ℕ)
    → Steps instant before (end number) now (Ok (values evaluated))
    → Prints (response.Values evaluated.time evaluated.values) text
    → Answers number (end number) before now text
ended before now number evaluated text steps (inl is) =
    record { answer = Ok (values evaluated); steps = steps; text_is = is }
ended before now number evaluated text steps (inr is) =
    record { answer = Err Memory; steps = go (run_of number before.runs) steps; text_is = is }
  where
    go : (there : Option (Run Question))
        → (now, Ok (values evaluated)) ≡ end_step instant there before number
        → (is_some there ≡ true) × (now ≡ without before number)
    go None is = let wrong : true ≡ false = ap (λ pair. is_ok pair.1) is in absurd cc
    go (Some run) is = (refl, ap (λ pair. pair.0) is)

-- what holds of what is given gives another fact
pub if_ok_more : {A E : Type 0} (result : Result A E) (P Q : A → Type 0) → ((a : A) → P a → Q a)
    → IfOk result P → IfOk result Q
if_ok_more (Ok a) P Q more p = more a p
if_ok_more (Err e) P Q more p = tt

-- a body whose batches were all accepted
pub imported :
    (body : BodyOf) (passed : List (List ℕ)) (before now : State) (all : List Batch) (text : List ℕ)
    → Gathers body passed
    → all ≡ with_more body.parted [] → Accepts before all now
    → text ≡ accepted_line (length all) (row_count all) body.skipped
    → Imports body.format body.time passed before now text
imported body passed before now all text gathers is accepts line =
    let means = said body.format body.time passed in
    let these : all ≡ batches means = is ∙ sym (gathers.batches [])
    ∙ ap batches_of (append-nil (map or_none means)) in (
      means,
      lines_mean body.format body.time passed,
      subst (λ t. BatchesCome means before now t)
          (sym (line ∙ ap (λ list. accepted_line (length list) (row_count list) body.skipped) these
          ∙ ap (accepted_line (length (batches means)) (row_count (batches means))) gathers.skips))
          (all_accepted now (subst (λ list. Accepts before list now) these accepts)),
    )

-- a body of which a batch was refused
pub refused_body :
    (body : BodyOf) (passed : List (List ℕ)) (before now : State) (all : List Batch) (why : Refusal)
    (text : List ℕ)
    → Gathers body passed → all ≡ with_more body.parted [] → Refuses before all now why
    → text ≡ refused_line why
    → Imports body.format body.time passed before now text
refused_body body passed before now all why text gathers is refuses line =
    let means = said body.format body.time passed in
    let these : all ≡ batches means = is ∙ sym (gathers.batches [])
    ∙ ap batches_of (append-nil (map or_none means)) in (
      means,
      lines_mean body.format body.time passed,
      subst (λ t. BatchesCome means before now t) (sym line)
          (one_refused now why (subst (λ list. Refuses before list now why) these refuses)),
    )

-- what holds in any case holds where there is an error
pub on_err : {A E P : Type 0} (result : Result A E) → P → OnErr result P
on_err (Ok a) p = tt
on_err (Err e) p = p

-- what holds of an error holds of a result that is this error
pub at_err : {A E : Type 0} (X : Result A E → Type 0) (result : Result A E) (e : E)
    → IsErrAnd result (λ f. f ≡ e) → X (Err e) → X result
at_err X (Ok a) e is x = absurd is
at_err X (Err f) e is x = subst (λ g. X (Err g)) (sym is) x
