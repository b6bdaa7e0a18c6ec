-- A script is read in one way, and prints one text.
use Rattle.std.proofs.Common.{◌≡◌, ℕ, ◌+◌, Bool, true, false, cond, List, [], ◌∷◌, ◌++◌, length, length-append, append_assoc, append-nil, codes, Option, Some, None, Result, Ok, Err, arith, refl, sym, ap, ◌∙◌, subst, inl, inr}
use Rattle.std.proofs.lemmas.List.{append_cancel_right, same_from_push}
use Rattle.std.specs.List.{AllByRecursion}
use Rattle.vm_labels.specs.declared.row.Batch.{Batch}
use Rattle.vm_labels.specs.declared.row.Row.{Row}
use Rattle.vm_machine.specs.Eval.{instant}
use Rattle.vm_machine.specs.Machine.{Event, import, begin, read, end, close, Answer, accepted, run_of, Steps, step, is_full}
use Rattle.vm_machine.specs.declared.question.Evaluated.{Evaluated}
use Rattle.vm_machine.specs.declared.question.Question.{Question}
use Rattle.vm_machine.specs.declared.refusal.Refusal.{Refusal}
use Rattle.vm_machine.specs.declared.refusal.Refusal.TheVariants.{PendingFull, ViewsFull, UnknownRun, RunTaken, Memory}
use Rattle.vm_machine.specs.declared.run.Run.{Run as OpenRun}
use Rattle.vm_script.specs.Command.{command_of}
use Rattle.vm_script.specs.declared.command.Command.{Command}
use Rattle.vm_script.specs.declared.command.Command.TheVariants.{Import, Query, Run, End, Close}
use Rattle.vm_script.specs.declared.command.Format.{Format}
use Rattle.vm_top.specs.Laws.{PlaysWithMemory, no_command, next_command}
use Rattle.vm_top.specs.Printed.{printed, refused_line}
use Rattle.vm_top.specs.Replay.{State, Acts, Answers, Asks, IsToldOf, Accepts, no_batch, next_batch, Does, Imports, BatchesCome, all_accepted, one_refused, Refuses, batches, blank, question_of}
use Rattle.vm_top.specs.declared.query_fault.QueryFault.{QueryFault}
use Rattle.vm_top.specs.Script.{Entry, IsEntry, HasBody, IsCutOff, IsScript, IsBadAt, entry_lines, lines_after, script_lines}
use Rattle.vm_top.proofs.SaidLaws.{lines_mean_one}
use Rattle.vm_top.proofs.ScriptLaws.{entry_same, head_same, tail_same, some_same, not_cut}

-- one way to read it

-- two commands at the front of the same lines have the same lines
lines_same : (e f : Entry) (r s : List (List ℕ)) → IsEntry e → IsEntry f → entry_lines e
    ++ r ≡ entry_lines f ++ s
    → entry_lines e ≡ entry_lines f
lines_same e f r s is_e is_f same =
    append_cancel_right (entry_lines e) (entry_lines f) r
    (same ∙ ap (λ more. entry_lines f ++ more) (sym (entry_same e f r s is_e is_f same)))

-- no command stands where the first line outside the grammar does
not_broken : (f : Entry) (fs : List Entry) (line : List ℕ) (more rest : List (List ℕ)) → IsEntry f
    → line ∷ more ≡ script_lines (f ∷ fs) ++ rest → IsCutOff (command_of line) more → ⊥
not_broken f fs line more rest is_f same cut =
    let all = same ∙ append_assoc (entry_lines f) (script_lines fs) rest in
    let first =
    head_same line f.line more (lines_after f.command f.body ++ (script_lines fs ++ rest))
    all in
    let behind =
    tail_same line f.line more (lines_after f.command f.body ++ (script_lines fs ++ rest))
    all in
    let command = ap command_of first ∙ is_f.says in
    not_cut f.command f.body (script_lines fs ++ rest)
    (subst (λ lines. IsCutOff (Some f.command) lines) behind
    (subst (λ c. IsCutOff c more) command cut))

-- the first line outside the grammar stands after as many lines
one_break : (es fs : List Entry) (x y : List ℕ) (r s : List (List ℕ)) → AllByRecursion IsEntry es
    → AllByRecursion IsEntry fs
    → script_lines es ++ x ∷ r ≡ script_lines fs ++ y ∷ s → IsCutOff (command_of x) r
    → IsCutOff (command_of y) s
    → length (script_lines es) ≡ length (script_lines fs)
one_break [] [] x y r s are_e are_f same cut_x cut_y = refl
one_break [] (f ∷ fs) x y r s are_e are_f same cut_x cut_y =
    absurd (not_broken f fs x r (y ∷ s) are_f.0 same cut_x)
one_break (e ∷ es) [] x y r s are_e are_f same cut_x cut_y =
    absurd (not_broken e es y s (x ∷ r) are_e.0 (sym same) cut_y)
one_break (e ∷ es) (f ∷ fs) x y r s are_e are_f same cut_x cut_y =
    let all = sym (append_assoc (entry_lines e) (script_lines es) (x ∷ r)) ∙ same
    ∙ append_assoc (entry_lines f) (script_lines fs) (y ∷ s) in
    let rest =
    entry_same e f (script_lines es ++ x ∷ r) (script_lines fs ++ y ∷ s) are_e.0 are_f.0 all in
    let front =
    lines_same e f (script_lines es ++ x ∷ r) (script_lines fs ++ y ∷ s) are_e.0 are_f.0 all in
    let more = one_break es fs x y r s are_e.1 are_f.1 rest cut_x cut_y in
    omega (
      arith,
      ap length front,
      more,
      length-append (entry_lines e) (script_lines es),
      length-append (entry_lines f) (script_lines fs),
    )

pub one_bad_line : (lines : List (List ℕ)) (m n : ℕ) → IsBadAt m lines → IsBadAt n lines → m ≡ n
one_bad_line lines m n one two =
    let same = one_break one.0 two.0 one.1.line two.1.line one.1.more two.1.more one.1.are two.1.are
    (sym one.1.lines_are ∙ two.1.lines_are) one.1.broken two.1.broken in
    omega (arith, same, one.2, two.2)

-- the same lines of a command are of the same body
body_same : (command : Command) (b d : List (List ℕ)) → HasBody command b → HasBody command d
    → lines_after command b ≡ lines_after command d → b ≡ d
body_same (Import format now) b d has_b has_d same = append_cancel_right b d (codes "." ∷ []) same
body_same (Query run time expression) b d has_b has_d same = has_b ∙ sym has_d
body_same (Run run) b d has_b has_d same = has_b ∙ sym has_d
body_same (End run) b d has_b has_d same = has_b ∙ sym has_d
body_same (Close run) b d has_b has_d same = has_b ∙ sym has_d

abbrev entry_of : List ℕ → Command → List (List ℕ) → Entry
entry_of line command body = record { line = line; command = command; body = body }

command_same : (e f : Entry) → IsEntry e → IsEntry f → entry_lines e ≡ entry_lines f → e ≡ f
command_same e f is_e is_f same =
    let line =
    head_same e.line f.line (lines_after e.command e.body) (lines_after f.command f.body)
    same in
    let command = some_same e.command f.command (sym is_e.says ∙ ap command_of line ∙ is_f.says) in
    let more = ap (λ c. lines_after c e.body) (sym command)
    ∙ tail_same e.line f.line (lines_after e.command e.body) (lines_after f.command f.body) same in
    let body =
    body_same f.command e.body f.body (subst (λ c. HasBody c e.body) command is_e.body)
    is_f.body more in
    ap (λ line. entry_of line e.command e.body) line
    ∙ ap (λ command. entry_of f.line command e.body) command
    ∙ ap (λ body. entry_of f.line f.command body) body

-- the same lines are the same commands
one_list : (es fs : List Entry) → AllByRecursion IsEntry es → AllByRecursion IsEntry fs
    → script_lines es ≡ script_lines fs → es ≡ fs
one_list [] [] are_e are_f same = refl
one_list [] (f ∷ fs) are_e are_f same = absurd cc
one_list (e ∷ es) [] are_e are_f same = absurd cc
one_list (e ∷ es) (f ∷ fs) are_e are_f same =
    let rest = entry_same e f (script_lines es) (script_lines fs) are_e.0 are_f.0 same in
    let front = lines_same e f (script_lines es) (script_lines fs) are_e.0 are_f.0 same in
    ap (λ x. x ∷ es) (command_same e f are_e.0 are_f.0 front)
    ∙ ap (λ xs. f ∷ xs) (one_list es fs are_e.1 are_f.1 rest)

-- one text that it prints

-- the machine's own answer, unless memory ran out
own_answer :
    (state : State) (event : Event Question) (now : State)
    (answer : Result (Answer Evaluated) Refusal)
    → Steps instant state event now answer → (answer ≡ Err Memory → ⊥)
    → (now, answer) ≡ step instant state event
own_answer state event now (Ok a) steps held = steps
own_answer state event now (Err PendingFull) steps held = steps
own_answer state event now (Err ViewsFull) steps held = steps
own_answer state event now (Err (UnknownRun run)) steps held = steps
own_answer state event now (Err (RunTaken run)) steps held = steps
own_answer state event now (Err Memory) steps held = absurd (held refl)

same_answers : (run : ℕ) (event : Event Question) (mid m n : State) (s t : List ℕ)
    → Answers run event mid m s → Answers run event mid n t
    → (s ≡ refused_line Memory → ⊥) → (t ≡ refused_line Memory → ⊥) → (m ≡ n) × (s ≡ t)
same_answers run event mid m n s t one two held_s held_t =
    let both : (m, one.answer) ≡ (n, two.answer) =
    own_answer mid event m one.answer one.steps (λ is. held_s (one.text_is ∙ ap (printed run) is))
    ∙ sym (own_answer mid event n two.answer two.steps
    (λ is. held_t (two.text_is ∙ ap (printed run) is))) in
    (ap (λ pair. pair.0) both, one.text_is ∙ ap (λ pair. printed run pair.1) both ∙ sym two.text_is)

same_asks : (run : ℕ) (asked : Result Question QueryFault) (mid m n : State) (s t : List ℕ)
    → Asks run asked mid m s → Asks run asked mid n t
    → (s ≡ refused_line Memory → ⊥) → (t ≡ refused_line Memory → ⊥) → (m ≡ n) × (s ≡ t)
same_asks run (Ok question) mid m n s t one two held_s held_t =
    same_answers run (begin run question) mid m n s t one two held_s held_t
same_asks run (Err fault) mid m n s t one two held_s held_t =
    (one.0 ∙ sym two.0, go (run_of run mid.runs) one.1 two.1)
  where
    go : (there : Option (OpenRun Question)) → IsToldOf fault run there s
        → IsToldOf fault run there t → s ≡ t
    go (Some open_run) is other = is ∙ sym other
    go None (inl is) (inl other) = is ∙ sym other
    go None (inl is) (inr other) = absurd (held_t other)
    go None (inr is) other = absurd (held_s is)

-- a batch comes, and finds no room or some
abbrev came : Bool → State → Batch → State × Result (Answer Evaluated) Refusal
came full state batch =
    cond full (state, Err PendingFull)
    (record state { accepted = state.accepted ++ batch ∷ [] }, Ok accepted)

-- why something was refused, where it was
abbrev why_of : Result (Answer Evaluated) Refusal → Refusal
why_of (Ok answer) = Memory
why_of (Err why) = why

-- batches that come one after the other, up to the first that finds no room
import_all : State → List Batch → State × Result (Answer Evaluated) Refusal
import_all state [] = (state, Ok accepted)
import_all state (batch ∷ more) =
    cond (is_full state batch) (state, Err PendingFull)
    (import_all (record state { accepted = state.accepted ++ batch ∷ [] }) more)

-- it came with others after it
abbrev went : Bool → State → Batch → List Batch → State × Result (Answer Evaluated) Refusal
went full state batch more =
    cond full (state, Err PendingFull)
    (import_all (record state { accepted = state.accepted ++ batch ∷ [] }) more)

accepts_are : (before : State) (list : List Batch) (now : State) → Accepts before list now
    → (more : List Batch) → import_all before (list ++ more) ≡ import_all now more
unfolding import_all
accepts_are _ _ _ (no_batch state) more = refl
accepts_are _ _ _ (next_batch before mid now list batch accepts steps) more =
    ap (import_all before) (append_assoc list (batch ∷ []) more)
    ∙ accepts_are before list mid accepts (batch ∷ more)
    ∙ go (is_full mid batch) steps
  where
    go : (full : Bool) → (now, Ok accepted) ≡ came full mid batch
        → went full mid batch more ≡ import_all now more
    go true is = let no = ap (λ pair. pair.1) is in absurd cc
    go false is = ap (λ state. import_all state more) (sym (ap (λ pair. pair.0) is))

accepts_all : (before : State) (list : List Batch) (now : State) → Accepts before list now
    → import_all before list ≡ (now, Ok accepted)
unfolding import_all
accepts_all before list now accepts = ap (import_all before) (sym (append-nil list))
    ∙ accepts_are before list now accepts []

refuses_are : (before : State) (list : List Batch) (now : State) (why : Refusal)
    → Refuses before list now why
    → (why ≡ Memory → ⊥) → import_all before list ≡ (now, Err why)
unfolding import_all
refuses_are before list now why refuses held =
    ap (import_all before) refuses.are
    ∙ accepts_are before refuses.first refuses.mid refuses.accepts (refuses.batch ∷ refuses.more)
    ∙ go (is_full refuses.mid refuses.batch)
    (own_answer refuses.mid (import refuses.batch) now (Err why) refuses.steps
    (λ is. held (ap why_of is)))
  where
    go : (full : Bool) → (now, Err why) ≡ came full refuses.mid refuses.batch
        → went full refuses.mid refuses.batch refuses.more ≡ (now, Err why)
    go true is = sym is
    go false is = let no = ap (λ pair. pair.1) is in absurd cc

same_come : (means : List (Option (List Row))) (mid m n : State) (s t : List ℕ)
    → BatchesCome means mid m s → BatchesCome means mid n t
    → (s ≡ refused_line Memory → ⊥) → (t ≡ refused_line Memory → ⊥) → (m ≡ n) × (s ≡ t)
same_come means mid _ _ _ _ (all_accepted m one) (all_accepted n two) held_s held_t =
    let list = batches means in
    (ap (λ pair. pair.0) (sym (accepts_all mid list m one) ∙ accepts_all mid list n two), refl)
same_come means mid _ _ _ _ (all_accepted m one) (one_refused n why two) held_s held_t =
    let list = batches means in
    let both = sym (accepts_all mid list m one)
    ∙ refuses_are mid list n why two (λ is. held_t (ap refused_line is)) in
    let no = ap (λ pair. pair.1) both in
    absurd cc
same_come means mid _ _ _ _ (one_refused m why one) (all_accepted n two) held_s held_t =
    let list = batches means in
    let both = sym (accepts_all mid list n two)
    ∙ refuses_are mid list m why one (λ is. held_s (ap refused_line is)) in
    let no = ap (λ pair. pair.1) both in
    absurd cc
same_come means mid _ _ _ _ (one_refused m why one) (one_refused n other two) held_s held_t =
    let list = batches means in
    let both = sym (refuses_are mid list m why one (λ is. held_s (ap refused_line is)))
    ∙ refuses_are mid list n other two (λ is. held_t (ap refused_line is)) in
    (ap (λ pair. pair.0) both, ap (λ pair. printed 0 pair.1) both)

-- lines mean one thing, so their batches are the same
same_imports : (format : Format) (time : ℕ) (body : List (List ℕ)) (mid m n : State) (s t : List ℕ)
    → Imports format time body mid m s → Imports format time body mid n t
    → (s ≡ refused_line Memory → ⊥) → (t ≡ refused_line Memory → ⊥) → (m ≡ n) × (s ≡ t)
same_imports format time body mid m n s t one two held_s held_t =
    let same = lines_mean_one format time body one.0 one.1
    ∙ sym (lines_mean_one format time body two.0 two.1) in
    same_come two.0 mid m n s t (subst (λ means. BatchesCome means mid m s) same one.2) two.2 held_s
    held_t

same_does : (command : Command) (body : List (List ℕ)) (mid m n : State) (s t : List ℕ)
    → Does command body mid m s
    → Does command body mid n t → (s ≡ refused_line Memory → ⊥) → (t ≡ refused_line Memory → ⊥)
    → (m ≡ n) × (s ≡ t)
same_does (Import format time) body mid m n s t one two held_s held_t =
    same_imports format time body mid m n s t one two held_s held_t
same_does (Query run time expression) body mid m n s t one two held_s held_t =
    same_asks run (question_of time expression) mid m n s t one two held_s held_t
same_does (Run run) body mid m n s t one two held_s held_t =
    same_answers run (read run) mid m n s t one two held_s held_t
same_does (End run) body mid m n s t one two held_s held_t =
    same_answers run (end run) mid m n s t one two held_s held_t
same_does (Close run) body mid m n s t one two held_s held_t =
    same_answers run (close run) mid m n s t one two held_s held_t

same_play : {before : State} (es fs : List Entry) (m n : State) (s t : List ℕ)
    → PlaysWithMemory before es m s
    → PlaysWithMemory before fs n t → es ≡ fs → (m ≡ n) × (s ≡ t)
same_play _ _ _ _ _ _ no_command no_command same = (refl, refl)
same_play _ _ _ _ _ _ no_command (next_command fs f k n ts t two does held) same =
    absurd (omega (arith, ap length same, length-append fs (f ∷ [])))
same_play _ _ _ _ _ _ (next_command es e k m ss s one does held) no_command same =
    absurd (omega (arith, ap length same, length-append es (e ∷ [])))
same_play _ _ _ _ _ _ (next_command es e k m ss s one does_s held_s)
    (next_command fs f l n ts t two does_t held_t) same =
    let parts = same_from_push es fs e f same in
    let front = same_play es fs k l ss ts one two parts.0 in
    let here =
    same_does f.command f.body k m n s t (subst (λ entry. Acts entry k m s) parts.1 does_s)
    (subst (λ mid. Acts f mid n t) (sym front.0) does_t) held_s held_t in
    (here.0, ap (λ text. text ++ s) front.1 ∙ ap (λ text. ts ++ text) here.1)

pub one_play : (lines : List (List ℕ)) (es fs : List Entry) (m n : State) (s t : List ℕ)
    → IsScript lines es → IsScript lines fs
    → PlaysWithMemory blank es m s → PlaysWithMemory blank fs n t → s ≡ t
one_play lines es fs m n s t script_e script_f one two =
    (same_play es fs m n s t one two
    (one_list es fs script_e.are script_f.are (sym script_e.lines_are ∙ script_f.lines_are))).1
