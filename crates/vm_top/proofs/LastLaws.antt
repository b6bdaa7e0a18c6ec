-- What a question finds in an input that is read line by line.
use Rattle.std.proofs.Common.{◌≡◌, ℕ, List, ◌∷◌, ◌++◌, append_assoc, Option, Some, None, refl, sym, ap, subst, ◌∙◌}
use Rattle.std.specs.Option.{option_map}
use Rattle.vm_labels.specs.declared.row.Row.{Row}
use Rattle.vm_base.specs.declared.stamped.Stamped.{Stamped}
use Rattle.vm_labels.specs.declared.pair.Pair.{Pair}
use Rattle.vm_lines.specs.Lines.{lines}
use Rattle.vm_lines.specs.Reading.{IsFirstLine}
use Rattle.vm_machine.specs.Eval.{eval}
use Rattle.vm_machine.specs.Found.{found, values_of}
use Rattle.vm_machine.specs.declared.question.Question.{Question}
use Rattle.vm_machine.specs.declared.question.Valued.{Valued}
use Rattle.vm_machine.proofs.FoundLaws.{found_values}
use Rattle.vm_outside.specs.Outside.{Told}
use Rattle.vm_script.specs.declared.command.Format.TheVariants.{Prom}
use Rattle.vm_top.specs.Last.{question, IsLastAnswer}
use Rattle.vm_top.specs.inner.Reading.{Place, Takes, first_place, unread}
use Rattle.vm_top.specs.Reply.{reply}
use Rattle.vm_top.specs.inner.Said.{said, rows, line_rows}
use Rattle.vm_top.proofs.SaidLaws.{lines_mean}
use Rattle.vm_top.proofs.InputLaws.{unread_first, through_line, takes_none}

-- facts of the content that give another
pub told_more : {A : Type 0} (told : Option A) (P Q : A → Type 0) → ((a : A) → P a → Q a)
    → Told told P → Told told Q
told_more None P Q more p = tt
told_more (Some a) P Q more p = more a p

-- where nothing is read yet, what is unread is all
pub all_unread : {X : Type 0} (said : List (List ℕ) → X) (place : Place) (left : Option (List ℕ))
    → place ≡ first_place
    → option_map (λ bytes. said (lines bytes)) left
    ≡ option_map (λ bytes. said (lines bytes)) (unread place left)
all_unread said place left is =
    ap (option_map (λ bytes. said (lines bytes)))
    (sym (unread_first left) ∙ ap (λ p. unread p left) (sym is))

pub none_taken : (place : Place) (left : Option (List ℕ)) → place ≡ first_place
    → Takes first_place place left left
none_taken place left is =
    subst (λ p. Takes first_place p left left) (sym is) (takes_none first_place left)

-- one line more
pub row_step : (now : ℕ) (done : List Row) (start before after : Option (List ℕ)) (line : List ℕ)
    → option_map (λ bytes. rows now (lines bytes)) start
    ≡ option_map (λ bytes. done ++ rows now (lines bytes)) before
    → IsFirstLine before line after
    → option_map (λ bytes. rows now (lines bytes)) start
    ≡ option_map (λ bytes. (done ++ line_rows now line) ++ rows now (lines bytes)) after
row_step now done start before after line so_far first =
    so_far ∙ through_line (λ ls. done ++ rows now ls) before after line first ∙ go after
  where
    go : (after : Option (List ℕ))
        → option_map (λ bytes. done ++ rows now (line ∷ lines bytes)) after
        ≡ option_map (λ bytes. (done ++ line_rows now line) ++ rows now (lines bytes)) after
    go None = refl
    go (Some bytes) =
        ap Some (sym (append_assoc done (line_rows now line) (rows now (lines bytes))))

-- the reply with the values that were found
pub answer_from :
    (name : List ℕ) (time now : ℕ) (bytes : List ℕ) (asked : Question)
    (f : List (List Pair × Option Stamped)) (values : List Valued) (body : List ℕ)
    → asked ≡ question name time → f ≡ found asked (rows now (lines bytes)) → values ≡ values_of f
    → body ≡ reply time values
    → IsLastAnswer name time now bytes body
answer_from name time now bytes asked f values body is there held written = (
  said Prom now (lines bytes),
  lines_mean Prom now (lines bytes),
  written ∙ ap (reply time)
      (held ∙ ap values_of there ∙ found_values asked (rows now (lines bytes)))
      ∙ ap (λ q. reply time (eval 0 q (rows now (lines bytes)))) is,
)
