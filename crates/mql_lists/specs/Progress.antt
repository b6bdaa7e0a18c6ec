-- Machines that read the words after a bracket, one at a time, up to the bracket that closes it.
use Rattle.std.specs.Prelude.{List, [], ◌∷◌, Option, Some, None}
use Rattle.mql_lists.specs.Words.{Word}
use Rattle.mql_lists.specs.declared.progress.Progress.{Progress}
use Rattle.mql_lists.specs.declared.progress.Progress.TheVariants.{Goes, Done}

-- what a step comes to and the words after it; `more` reads on from a state
abbrev pub behind_step : {S V : Type 0} → Option (Progress S V) → (S → Option (V × List Word))
    → List Word → Option (V × List Word)
behind_step None more rest = None
behind_step (Some (Goes state)) more rest = more state
behind_step (Some (Done value)) more rest = Some (value, rest)

-- what a machine reads from a state, and the words after the closing bracket
abbrev pub leads : {S V : Type 0} → (S → Word → Option (Progress S V)) → S → List Word
    → Option (V × List Word)
leads step state [] = None
leads step state (word ∷ rest) =
    behind_step (step state word) (λ next. leads step next rest) rest
