-- The parser's steps: one token each.
use Rattle.std.specs.Prelude.{◌≡◌, ℕ, zero, suc, ◌+◌, ◌<◌, ◌≤◌, List, [], ◌∷◌, ◌++◌, length, take, drop, map, Some, None, Ok, Err, option_and_then, true, false}
use Rattle.std.proofs.Common.{refl, ap, sym, subst, ◌∙◌, arith, get_or}
use Rattle.vm_base.specs.Run.{run}
use Rattle.vm_base.proofs.RunLaws.{run-append}
use Rattle.mql_lists.specs.Words.{Word}
use Rattle.mql_lists.specs.Classes.{class_of_word}
use Rattle.mql_parse.specs.Faults.{IsUnexpected, IsBeyond}
use Rattle.mql_parse.specs.Grammar.{Spells}
use Rattle.mql_parse.specs.Machine.{State, moved, step, by, final_of, start}
use Rattle.mql_parse.specs.declared.fault.Wrong.TheVariants.{Unexpected, TooDeep, NumberTooWide}
use Rattle.mql_expr.specs.Tree.{Tree}
use Rattle.mql_parse.specs.inner.Views.{the_fault, Steps}
use Rattle.mql_parse.specs.declared.state.Open.{Open}
use Rattle.mql_parse.specs.declared.fault.StepError.{StepError}
use Rattle.mql_parse.specs.declared.fault.StepError.TheVariants.{Memory, Refused}
use Rattle.mql_parse.specs.declared.parse_fault.ParseFault.{ParseFault}
use Rattle.mql_parse.proofs.ReadingLaws.{unexpected_there, deep_there, wide_there, short_there, whole_there}

module _ {T : Type 0} (f : T → Word) where
  split_at : (ts : List T) (i : ℕ) (d : T) → i < length ts → map f ts ≡ take i (map f ts)
      ++ (f (get_or ts i d) ∷ drop (suc i) (map f ts))
  split_at [] i d inside = absurd (omega arith)
  split_at (t ∷ ts) zero d inside = refl
  split_at (t ∷ ts) (suc i) d inside = let less : i < length ts =
      omega arith in ap (λ ws. f t ∷ ws) (split_at ts i d less)

  take_next : (ts : List T) (i : ℕ) (d : T) → i < length ts
      → take (suc i) (map f ts) ≡ take i (map f ts) ++ (f (get_or ts i d) ∷ [])
  take_next [] i d inside = absurd (omega arith)
  take_next (t ∷ ts) zero d inside = refl
  take_next (t ∷ ts) (suc i) d inside = let less : i < length ts =
      omega arith in ap (λ ws. f t ∷ ws) (take_next ts i d less)

  pub take_all : (ts : List T) → take (length ts) (map f ts) ≡ map f ts
  take_all [] = refl
  take_all (t ∷ ts) = ap (λ ws. f t ∷ ws) (take_all ts)

  module _ (len : ℕ) (ts : List T) (i : ℕ) (d : T) (s : State) (inside : i < length ts)
      (there : run (step len) start (take i (map f ts)) ≡ Some s) where
    pub turn_on : (u : State)
        → by len s.frames s.before (f (get_or ts i d)) (class_of_word (f (get_or ts i d))) ≡ Ok u
        → run (step len) start (take (suc i) (map f ts)) ≡ Some u
    turn_on u move =
        ap (run (step len) start) (take_next ts i d inside)
        ∙ run-append (step len) final_of start (take i (map f ts)) (f (get_or ts i d) ∷ [])
        ∙ ap (option_and_then (λ t. run (step len) t (f (get_or ts i d) ∷ []))) there
        ∙ ap (λ r. option_and_then (λ t. run (step len) t []) (moved r)) move

    pub turn_unexpected :
        by len s.frames s.before (f (get_or ts i d)) (class_of_word (f (get_or ts i d)))
        ≡ Err Unexpected
        → IsUnexpected len (map f ts) (f (get_or ts i d)).at
    turn_unexpected move =
        subst (λ ws. IsUnexpected len ws (f (get_or ts i d)).at) (sym (split_at ts i d inside))
        (unexpected_there len (take i (map f ts)) (drop (suc i) (map f ts)) s (f (get_or ts i d))
        there move)

    pub turn_deep : by len s.frames s.before (f (get_or ts i d)) (class_of_word (f (get_or ts i d)))
        ≡ Err TooDeep
        → IsBeyond false len (map f ts) (f (get_or ts i d)).at
    turn_deep move =
        subst (λ ws. IsBeyond false len ws (f (get_or ts i d)).at) (sym (split_at ts i d inside))
        (deep_there len (take i (map f ts)) (drop (suc i) (map f ts)) s (f (get_or ts i d)) there
        move)

    pub turn_wide : by len s.frames s.before (f (get_or ts i d)) (class_of_word (f (get_or ts i d)))
        ≡ Err NumberTooWide
        → IsBeyond true len (map f ts) (f (get_or ts i d)).at
    turn_wide move =
        subst (λ ws. IsBeyond true len ws (f (get_or ts i d)).at) (sym (split_at ts i d inside))
        (wide_there len (take i (map f ts)) (drop (suc i) (map f ts)) s (f (get_or ts i d)) there
        move)

    pub turn_more : (u : State)
        → by len s.frames s.before (f (get_or ts i d)) (class_of_word (f (get_or ts i d))) ≡ Ok u
        → run (step len) start (take (i + 1) (map f ts)) ≡ Some u
    turn_more u move =
        let more : suc i ≡ i + 1 = omega arith in
        subst (λ n. run (step len) start (take n (map f ts)) ≡ Some u) more (turn_on u move)

    -- what a refused token says of the text
    abbrev pub Refuses : StepError → List Open → Type 0
    Refuses e opens =
        Steps (Err e) opens
        (by len s.frames s.before (f (get_or ts i d)) (class_of_word (f (get_or ts i d))))

    pub fault_unexpected : (opens : List Open) (e : StepError) (at : ℕ) → Refuses e opens
        → the_fault e (f (get_or ts i d)).at ≡ ParseFault.Unexpected at
        → IsUnexpected len (map f ts) at
    fault_unexpected opens Memory at is same = absurd (cc same)
    fault_unexpected opens (Refused Unexpected) at is same =
        let here : (f (get_or ts i d)).at ≡ at =
        cc same in subst (IsUnexpected len (map f ts)) here (turn_unexpected is)
    fault_unexpected opens (Refused TooDeep) at is same = absurd (cc same)
    fault_unexpected opens (Refused NumberTooWide) at is same = absurd (cc same)

    pub fault_deep : (opens : List Open) (e : StepError) (at : ℕ) → Refuses e opens
        → the_fault e (f (get_or ts i d)).at ≡ ParseFault.TooDeep at
        → IsBeyond false len (map f ts) at
    fault_deep opens Memory at is same = absurd (cc same)
    fault_deep opens (Refused Unexpected) at is same = absurd (cc same)
    fault_deep opens (Refused TooDeep) at is same = let here : (f (get_or ts i d)).at ≡ at =
        cc same in subst (IsBeyond false len (map f ts)) here (turn_deep is)
    fault_deep opens (Refused NumberTooWide) at is same = absurd (cc same)

    pub fault_wide : (opens : List Open) (e : StepError) (at : ℕ) → Refuses e opens
        → the_fault e (f (get_or ts i d)).at ≡ ParseFault.NumberTooWide at
        → IsBeyond true len (map f ts) at
    fault_wide opens Memory at is same = absurd (cc same)
    fault_wide opens (Refused Unexpected) at is same = absurd (cc same)
    fault_wide opens (Refused TooDeep) at is same = absurd (cc same)
    fault_wide opens (Refused NumberTooWide) at is same = let here : (f (get_or ts i d)).at ≡ at =
        cc same in subst (IsBeyond true len (map f ts)) here (turn_wide is)

  module _ (len : ℕ) (ts : List T) (i : ℕ) (s : State) (below : i ≤ length ts)
      (above : length ts ≤ i) (there : run (step len) start (take i (map f ts)) ≡ Some s) where
    all_read : run (step len) start (map f ts) ≡ Some s
    all_read =
        let all : i ≡ length ts = omega arith in
        subst (λ ws. run (step len) start ws ≡ Some s) (take_all ts)
        (subst (λ n. run (step len) start (take n (map f ts)) ≡ Some s) all there)

    pub ended_whole : (t : Tree) → final_of s ≡ Some t → Spells len (map f ts) t
    ended_whole t ends = whole_there len (map f ts) s t all_read ends

    pub ended_short : final_of s ≡ None → IsUnexpected len (map f ts) len
    ended_short none = short_there len (map f ts) s all_read none
