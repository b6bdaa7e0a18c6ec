-- That lines mean one thing, a script is read in one way, and prints one text.
use Rattle.std.specs.Prelude.{◌≡◌, ℕ, List, [], ◌∷◌, ◌++◌, Option}
use Rattle.vm_labels.specs.declared.row.Row.{Row}
use Rattle.vm_machine.specs.declared.refusal.Refusal.TheVariants.{Memory}
use Rattle.vm_script.specs.declared.command.Format.{Format}
use Rattle.vm_top.specs.Printed.{refused_line}
use Rattle.vm_top.specs.Replay.{State, Acts, blank}
use Rattle.vm_top.specs.Rows.{LinesMean}
use Rattle.vm_top.specs.Script.{Entry, IsScript, IsBadAt}

-- any lines mean something
abbrev pub SomeMeaning : Type 0
SomeMeaning = (format : Format) (now : ℕ) (lines : List (List ℕ))
    → (said : List (Option (List Row))) × LinesMean format now lines said

-- and nothing else
abbrev pub OneMeaning : Type 0
OneMeaning =
    (format : Format) (now : ℕ) (lines : List (List ℕ)) (one other : List (Option (List Row)))
    → LinesMean format now lines one → LinesMean format now lines other → one ≡ other

-- one line at most is the first outside the grammar
abbrev pub OneBadLine : Type 0
OneBadLine = (lines : List (List ℕ)) (m n : ℕ) → IsBadAt m lines → IsBadAt n lines → m ≡ n

-- none is where all lines are commands
abbrev pub NoBadLine : Type 0
NoBadLine = (lines : List (List ℕ)) (entries : List Entry) (number : ℕ) → IsScript lines entries
    → IsBadAt number lines → ⊥

-- commands are done, one after the other, and no answer says that memory ran out
pub data PlaysWithMemory (before : State) : List Entry → State → List ℕ → Type 0 where
  no_command : PlaysWithMemory before [] before []
  next_command : (entries : List Entry) (entry : Entry) (mid now : State) (texts text : List ℕ)
      → PlaysWithMemory before entries mid texts → Acts entry mid now text
      → (text ≡ refused_line Memory → ⊥)
      → PlaysWithMemory before (entries ++ entry ∷ []) now (texts ++ text)

-- two plays of a script print the same, where memory doesn't run out
abbrev pub OnePlay : Type 0
OnePlay = (lines : List (List ℕ)) (es fs : List Entry) (m n : State) (s t : List ℕ)
    → IsScript lines es → IsScript lines fs → PlaysWithMemory blank es m s
    → PlaysWithMemory blank fs n t → s ≡ t
