-- What a line of the replay script says.
use Rattle.std.specs.Prelude.{ℕ, ◌&&◌, ◌==◌, ◌<◌, ◌^◌, ◌-◌, nat_le, Bool, List, [], ◌∷◌, length, codes, Option, Some, None, if◌then◌else◌}
use Rattle.std.specs.List.{before_first, after_first}
use Rattle.std.specs.Option.{option_map}
use Rattle.std.specs.Str.{bytes_eq, is_utf8, byte}
use Rattle.vm_script.specs.Chained.{◌>>=◌}
use Rattle.vm_script.specs.Number.{number_of, number_up_to}
use Rattle.vm_script.specs.declared.command.Command.{Command}
use Rattle.vm_script.specs.declared.command.Command.TheVariants.{Import, Query, Run, End, Close}
use Rattle.vm_script.specs.declared.command.Format.TheVariants.{Prom, Json}

-- the character between words
abbrev pub is_space : ℕ → Bool
is_space char = char == byte " "

-- the first word, which ends before the first space or with the text
abbrev pub first_word : List ℕ → List ℕ
first_word = before_first is_space

-- what stands after the first space, nothing where there is none
abbrev pub behind_word : List ℕ → List ℕ
behind_word = after_first is_space

-- NOW: a time in ms, at most 2^48 - 1
abbrev pub now_of : List ℕ → Option ℕ
now_of = number_up_to (2 ^ 48 - 1)

-- ID: the number of a run, at most 999
abbrev pub run_of : List ℕ → Option ℕ
run_of = number_up_to 999

-- EXPR: a text that isn't empty
abbrev pub expression_of : List ℕ → Option (List ℕ)
expression_of text = if length text == 0 then None else Some text

-- ID TIME EXPR. A time that no query can have is refused later, and is in the grammar.
abbrev pub query_of : List ℕ → Option Command
query_of words = do
  run ← run_of (first_word words)
  time ← number_of (first_word (behind_word words))
  expression ← expression_of (behind_word (behind_word words))
  Some (Query run time expression)

-- each command's word, and what is said where the words after it are these
abbrev pub commands : List ℕ → List (List ℕ × Option Command)
commands words =
    (codes "prom", option_map (Import Prom) (now_of words))
    ∷ (codes "json", option_map (Import Json) (now_of words))
    ∷ (codes "query", query_of words)
    ∷ (codes "run", option_map Run (run_of words))
    ∷ (codes "end", option_map End (run_of words))
    ∷ (codes "close", option_map Close (run_of words))
    ∷ []

-- what is said by the command of this word, none where there is no such command
abbrev pub said_by : List ℕ → List (List ℕ × Option Command) → Option Command
said_by word [] = None
said_by word (row ∷ more) = if bytes_eq word row.0 then row.1 else said_by word more

-- The command of a line, none where the line is outside the script's grammar: UTF-8 of at most
-- 4,194,304 bytes that is one command, its words parted by one space each.
abbrev pub command_of : List ℕ → Option Command
command_of line =
    if nat_le (length line) 4194304 && is_utf8 line
    then said_by (first_word line) (commands (behind_word line)) else None

-- the numbers of a command are within their bounds, and an expression isn't empty
abbrev pub IsBounded : Command → Type 0
IsBounded (Import format now) = now < 2 ^ 48
IsBounded (Query run time expression) = (run < 1000) × (time < 2 ^ 64) × (0 < length expression)
IsBounded (Run run) = run < 1000
IsBounded (End run) = run < 1000
IsBounded (Close run) = run < 1000

-- the line that ends a body
abbrev pub is_body_end : List ℕ → Bool
is_body_end line = bytes_eq line (codes ".")
