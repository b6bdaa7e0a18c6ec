-- `last NAME TIME`: its answer, and what it promises.
use Rattle.std.specs.Prelude.{◌≡◌, ℕ, true, List, [], ◌∷◌, Option, codes}
use Rattle.vm_labels.specs.declared.selector.FilterOp.TheVariants.{Equal}
use Rattle.vm_labels.specs.declared.selector.Selector.{Selector}
use Rattle.vm_labels.specs.declared.row.Row.{Row}
use Rattle.vm_lines.specs.Lines.{lines}
use Rattle.vm_machine.specs.Eval.{eval}
use Rattle.vm_machine.specs.declared.question.Question.{Question}
use Rattle.vm_script.specs.declared.command.Format.TheVariants.{Prom}
use Rattle.vm_top.specs.Promise.{Promise, IsShort, IsTooLong}
use Rattle.vm_top.specs.Reply.{reply}
use Rattle.vm_top.specs.Rows.{LinesMean, rows_of}

-- the series of a name
abbrev pub named : List ℕ → Selector
named name =
    record { lists = (record { name = codes "__name__"; op = Equal; value = name } ∷ []) ∷ [] }

-- the instant query of a name at a time in ms
abbrev pub question : List ℕ → ℕ → Question
question name time = record { time = time; selector = named name }

-- the reply to it over rows alone
abbrev pub last_answer : List ℕ → ℕ → List Row → List ℕ
last_answer name time rows = reply time (eval 0 (question name time) rows)

-- the reply to it over what the lines of an input mean, which are read at the time `now`
abbrev pub IsLastAnswer : List ℕ → ℕ → ℕ → List ℕ → List ℕ → Type 0
IsLastAnswer name time now input text =
    (said : List (Option (List Row))) × LinesMean Prom now (lines input) said
    × (text ≡ last_answer name time (rows_of said))

-- It reads the clock and writes its answer. It refuses an input that is too long; where it refuses
-- or stops, it wrote nothing.
abbrev pub last_promise : List ℕ → ℕ → Promise
last_promise name time = record {
  reads_clock = true;
  answers = IsLastAnswer name time;
  owes = λ now input text. IsShort input × IsLastAnswer name time now input text;
  refuses = λ left input text. IsTooLong input × (text ≡ []);
  stops = λ left input text. text ≡ [];
}
