-- Runs that are changed one after the other.
use Rattle.std.proofs.Common.{◌≡◌, ℕ, suc, zero, ◌+◌, ◌<◌, List, [], ◌∷◌, ◌++◌, map, take, drop, length, slice_set, refl, ap, arith}
use Rattle.std.proofs.Common.{Bool, true, false, cond, filter, subst, Option, Some, None, Ok, ◌^◌, ◌==◌, ◌&&◌}
use Rattle.std.specs.Option.{unwrap_or}
use Rattle.std.specs.Prelude.{nat_le, nat_lt}
use Rattle.std.specs.List.{slice_index_or}
use Rattle.vm_machine.specs.inner.InRange.{AreInRange}
use Rattle.vm_machine.specs.Machine.{Meaning, State, begin_step, new_run, begun, read_more, run_of}
use Rattle.vm_machine.specs.declared.question.Question.{Question}
use Rattle.vm_machine.specs.declared.run.Run.{Run}

-- one item more is changed in its place
pub changed_one : {A : Type 0} (f : A → A) (xs : List A) (i : ℕ) (d : A) → i < length xs
    → slice_set (map f (take i xs) ++ drop i xs) i (f (slice_index_or xs i d))
    ≡ map f (take (i + 1) xs) ++ drop (i + 1) xs
changed_one f [] i d within = absurd (omega arith)
changed_one f (x ∷ xs) zero d within = refl
changed_one f (x ∷ xs) (suc i) d within =
    let next : suc i + 1 ≡ suc (i + 1) = omega arith in
    rw next (ap (λ rest. f x ∷ rest) (changed_one f xs i d (omega arith)))

-- the item that is changed next is still the old one
pub still_there : {A : Type 0} (f : A → A) (xs : List A) (i : ℕ) (d : A) → i < length xs
    → slice_index_or (map f (take i xs) ++ drop i xs) i d ≡ slice_index_or xs i d
still_there f [] i d within = absurd (omega arith)
still_there f (x ∷ xs) zero d within = refl
still_there f (x ∷ xs) (suc i) d within = still_there f xs i d (omega arith)

-- a run is begun where its number is free and there is room
pub begins-free :
    {Q A : Type 0} (meaning : Meaning Q A) (there : Option (Run Q)) (state : State Q) (number : ℕ)
    (question : Q)
    → there ≡ None → nat_le 64 (length state.runs) ≡ false
    → begin_step meaning there state number question
    ≡ (record state { runs = state.runs ++ new_run meaning state number question ∷ [] }, Ok begun)
begins-free meaning None state number question free few = rw few refl
begins-free meaning (Some run) state number question free few = absurd cc

-- the times of runs stay in range where a run is added, taken out or read, and each has such a time

pub in_range-append : (runs : List (Run Question)) (run : Run Question) → AreInRange runs
    → run.question.time < 2 ^ 48 → AreInRange (runs ++ run ∷ [])
in_range-append [] run are small = (small, tt)
in_range-append (first ∷ runs) run are small = (are.0, in_range-append runs run are.1 small)

pub in_range-filter : (p : Run Question → Bool) (runs : List (Run Question)) → AreInRange runs
    → AreInRange (filter p runs)
in_range-filter p [] are = tt
in_range-filter p (run ∷ runs) are =
    elim (p run) as (λ b. AreInRange (cond b (run ∷ filter p runs) (filter p runs))) [
      | true ↦ (are.0, in_range-filter p runs are.1)
      | false ↦ in_range-filter p runs are.1
    ]

pub in_range-read : (number : ℕ) (runs : List (Run Question)) → AreInRange runs
    → AreInRange (map (read_more number) runs)
in_range-read number [] are = tt
in_range-read number (run ∷ runs) are = (
  elim (run.number == number
      && nat_lt run.read run.series) as (λ b.
      (cond b (record run { read = run.read + 1 }) run).question.time < 2 ^ 48) [
        | true ↦ are.0
        | false ↦ are.0
      ],
  in_range-read number runs are.1,
)

pub in_range-found : (number : ℕ) (runs : List (Run Question)) (run : Run Question)
    → AreInRange runs → run_of number runs ≡ Some run → run.question.time < 2 ^ 48
in_range-found number [] run are is = absurd cc
in_range-found number (first ∷ runs) run are is =
    go (first.number == number) is (in_range-found number runs run are.1)
  where
    go : (b : Bool) → cond b (Some first) (run_of number runs) ≡ Some run
        → (run_of number runs ≡ Some run → run.question.time < 2 ^ 48)
        → run.question.time < 2 ^ 48
    go true same more =
        subst (λ (r : Run Question). r.question.time < 2 ^ 48) (ap (λ o. unwrap_or o first) same)
        are.0
    go false there more = more there

pub ruleset begins = (begins-free, in_range-append)

pub ruleset times = (in_range-append, in_range-filter, in_range-read, in_range-found)
