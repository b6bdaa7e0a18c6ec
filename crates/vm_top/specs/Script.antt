-- A replay script: one command a line, and after each import the lines of its body.
use Rattle.std.specs.Prelude.{◌≡◌, ℕ, ◌+◌, false, List, [], ◌∷◌, ◌++◌, length, flat_map, codes, Option, Some, None, ⊤}
use Rattle.std.specs.List.{AllByRecursion}
use Rattle.vm_script.specs.Command.{command_of, is_body_end}
use Rattle.vm_script.specs.declared.command.Command.{Command}
use Rattle.vm_script.specs.declared.command.Command.TheVariants.{Import}

-- a command with its line, and the lines of its body
pub record Entry : Type 0 where
  pub line : List ℕ
  pub command : Command
  pub body : List (List ℕ)

-- no line is the one that ends a body
abbrev pub AreWithin : List (List ℕ) → Type 0
AreWithin body = AllByRecursion (λ line. is_body_end line ≡ false) body

-- the body that a command may have: only an import has one
abbrev pub HasBody : Command → List (List ℕ) → Type 0
HasBody (Import format now) body = AreWithin body
HasBody _ body = body ≡ []

-- the line says the command, which may have the body
pub record IsEntry (entry : Entry) : Type 0 where
  pub says : command_of entry.line ≡ Some entry.command
  pub body : HasBody entry.command entry.body

-- the lines after a command's own: its body, and the line that ends that
abbrev pub lines_after : Command → List (List ℕ) → List (List ℕ)
lines_after (Import format now) body = body ++ codes "." ∷ []
lines_after _ body = []

-- all lines of a command
abbrev pub entry_lines : Entry → List (List ℕ)
entry_lines entry = entry.line ∷ lines_after entry.command entry.body

-- the lines of commands, one after the other
abbrev pub script_lines : List Entry → List (List ℕ)
script_lines entries = flat_map entry_lines entries

-- a line that says no command, or one whose body has no end
abbrev pub IsCutOff : Option Command → List (List ℕ) → Type 0
IsCutOff None more = ⊤
IsCutOff (Some (Import format now)) more = AreWithin more
IsCutOff _ more = ⊥

-- the lines begin with these commands
pub record Begins (lines : List (List ℕ)) (entries : List Entry) : Type 0 where
  pub are : AllByRecursion IsEntry entries
  pub more : List (List ℕ)
  pub lines_are : lines ≡ script_lines entries ++ more

-- the lines are these commands, all of them
pub record IsScript (lines : List (List ℕ)) (entries : List Entry) : Type 0 where
  pub are : AllByRecursion IsEntry entries
  pub lines_are : lines ≡ script_lines entries

-- after these commands stands the first line outside the grammar
pub record Breaks (lines : List (List ℕ)) (entries : List Entry) : Type 0 where
  pub are : AllByRecursion IsEntry entries
  pub line : List ℕ
  pub more : List (List ℕ)
  pub lines_are : lines ≡ script_lines entries ++ line ∷ more
  pub broken : IsCutOff (command_of line) more

-- the first line outside the grammar has this number, counted from 1
abbrev pub IsBadAt : ℕ → List (List ℕ) → Type 0
IsBadAt number lines =
    (entries : List Entry) × Breaks lines entries × (number ≡ length (script_lines entries) + 1)
