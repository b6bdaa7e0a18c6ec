-- The words of a command line.
use Rattle.std.specs.Prelude.{ℕ, ◌==◌, List, [], ◌∷◌, length, codes, Option, Some, None, if◌then◌else◌}
use Rattle.std.specs.Option.{option_map}
use Rattle.std.specs.Str.{bytes_eq}
use Rattle.vm_labels.specs.Name.{is_name}
use Rattle.vm_script.specs.Number.{number_up_to}

-- what a command line asks for
pub data Task : Type 0 where
  -- `last NAME TIME`
  last : (name : List ℕ) → (time : ℕ) → Task
  -- `replay`
  replay : Task

-- a time in ms: 1 to 20 digits, at most 2^48 - 1
abbrev pub time_of : List ℕ → Option ℕ
time_of = number_up_to 281474976710655

-- the words without the first `--`, which ends the options
abbrev pub positional : List (List ℕ) → List (List ℕ)
positional [] = []
positional (word ∷ more) = if bytes_eq word (codes "--") then more else word ∷ positional more

-- `NAME TIME`
abbrev pub last_of : List (List ℕ) → Option Task
last_of (name ∷ time ∷ []) = if is_name name then option_map (λ at. last name at) (time_of time)
    else None
last_of _ = None

-- no word
abbrev pub replay_of : List (List ℕ) → Option Task
replay_of words = if length words == 0 then Some replay else None

-- what the words ask for, none where they are no command
abbrev pub asked : List (List ℕ) → Option Task
asked [] = None
asked (command ∷ more) =
    if bytes_eq command (codes "last") then last_of (positional more)
    else (if bytes_eq command (codes "replay") then replay_of (positional more) else None)
