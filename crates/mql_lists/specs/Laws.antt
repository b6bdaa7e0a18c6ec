-- What it is that a machine reads a grammar.
use Rattle.std.specs.Prelude.{◌≡◌, ℕ, List, ◌++◌, Option, Some}
use Rattle.std.specs.List.{AllByRecursion}
use Rattle.mql_lists.specs.Grammar.{Names, Params, Braces}
use Rattle.mql_lists.specs.Machines.{names_start, names_step, params_start, params_step, braces_start, braces_step}
use Rattle.mql_lists.specs.Progress.{leads}
use Rattle.mql_lists.specs.Words.{Word}
use Rattle.mql_lists.specs.declared.progress.Progress.{Progress}

-- some words at one place that a machine reads to the end, before any others
pub record GoesOn {S V : Type 0} (step : S → Word → Option (Progress S V)) (state : S) (at : ℕ)
    (rest : List Word) : Type 0 where
  pub more : List Word
  pub value : V
  pub places : AllByRecursion (λ word. word.at ≡ at) more
  pub ends : leads step state (more ++ rest) ≡ Some (value, rest)

-- Of the words after the opening bracket a machine reads what the grammar says, and nothing else,
-- and from each state it reads some words to the end.
pub record IsReader {S V : Type 0} (step : S → Word → Option (Progress S V)) (start : S)
    (grammar : List Word → List Word → V → Type 0) : Type 0 where
  pub read : (text rest : List Word) (value : V) → grammar text rest value
      → leads step start text ≡ Some (value, rest)
  pub only : (text rest : List Word) (value : V) → leads step start text ≡ Some (value, rest)
      → grammar text rest value
  pub viable : (state : S) (at : ℕ) (rest : List Word) → GoesOn step state at rest

-- The machines of names, parameters and braces read what the grammar says.
abbrev pub NamesAreRead : Type 0
NamesAreRead = IsReader names_step names_start Names

abbrev pub ParamsAreRead : Type 0
ParamsAreRead = IsReader params_step params_start Params

abbrev pub BracesAreRead : Type 0
BracesAreRead = IsReader braces_step braces_start Braces
