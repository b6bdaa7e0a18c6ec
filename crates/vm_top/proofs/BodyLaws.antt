-- The lines of a body.
use Rattle.std.proofs.Common.{◌≡◌, ℕ, ◌+◌, ◌<◌, List, [], ◌∷◌, ◌++◌, length, append_assoc, map, codes, Option, Some, true, false, cond, refl, sym, ap, ◌∙◌}
use Rattle.std.proofs.lemmas.List.{map-append}
use Rattle.std.proofs.lemmas.List.Sums.{sum_by_push}
use Rattle.std.proofs.lemmas.Slice.Eq.{bytes_eq-Decides}
use Rattle.std.specs.Prelude.{nat_eq, ◌&&◌}
use Rattle.std.specs.Option.{is_none}
use Rattle.std.specs.List.{AllByRecursion}
use Rattle.vm_labels.specs.declared.row.Row.{Row}
use Rattle.vm_lines.specs.Lines.{is_too_long}
use Rattle.vm_machine.specs.Batches.{batches_of, enough, with_more}
use Rattle.vm_machine.proofs.BatchLaws.{no_row}
use Rattle.vm_script.specs.Command.{is_body_end}
use Rattle.vm_script.specs.declared.command.Command.TheVariants.{Import}
use Rattle.vm_script.specs.declared.command.Format.{Format}
use Rattle.vm_top.specs.inner.Playing.{Adds, BodyOf, BreaksOff, Gathers, IsCutShort}
use Rattle.vm_top.specs.inner.Reading.{Place}
use Rattle.vm_top.specs.Replay.{skipped}
use Rattle.vm_top.specs.Rows.{or_none}
use Rattle.vm_top.specs.inner.Said.{format_rows, said}
use Rattle.vm_top.specs.declared.fault.Fault.{Fault}
use Rattle.vm_top.specs.declared.fault.Fault.TheVariants.{Usage, InputTooLong, BadLine, Input, Output, Memory}

-- one more at the end of a list of which each element has a property
pub all_more : {X : Type 0} (P : X → Type 0) (xs : List X) (x : X) → AllByRecursion P xs → P x
    → AllByRecursion P (xs ++ x ∷ [])
all_more P [] x are is = (is, tt)
all_more P (y ∷ ys) x are is = (are.0, all_more P ys x are.1 is)

-- a line that is too long ends no body
pub no_end : (line : List ℕ) → is_too_long line ≡ true → false ≡ is_body_end line
no_end [] long = refl
no_end (a ∷ []) long = absurd cc
no_end (a ∷ b ∷ more) long =
    elim (nat_eq a 46) as (λ same. false ≡ (same && false)) [
      | true ↦ refl
      | false ↦ refl
    ]

-- one line more, whose rows came behind those that were there
pub gathers_more : (old new : BodyOf) (passed : List (List ℕ)) (text : List ℕ) → Gathers old passed
    → Adds (format_rows old.format old.time text) old new → Gathers new (passed ++ text ∷ [])
gathers_more old new passed text so_far adds =
    let means = said old.format old.time passed in
    let rows = format_rows old.format old.time text in
    let skips : Option (List Row) → ℕ = λ said. cond (is_none said) 1 0 in
    let all : said old.format old.time (passed ++ text ∷ []) ≡ means ++ rows ∷ [] =
    map-append (format_rows old.format old.time) passed (text ∷ []) in
    record {
      batches = λ more.
          rw (adds.format, adds.time)
          (ap (λ list. batches_of (map or_none list ++ more)) all
          ∙ ap (λ list. batches_of (list ++ more)) (map-append or_none means (rows ∷ []))
          ∙ ap batches_of (append_assoc (map or_none means) (or_none rows ∷ []) more)
          ∙ so_far.batches (or_none rows ∷ more)
          ∙ adds.comes more);
      skips = rw (adds.format, adds.time)
          (adds.skips ∙ ap (λ count. count + skips rows) so_far.skips
          ∙ sym (sum_by_push skips means rows)
          ∙ sym (ap skipped all));
      few = adds.few;
    }

-- a line without rows changes no batch
pub no_rows : (old : BodyOf) → length old.parted.held < enough
    → (more : List (List Row)) → with_more old.parted ([] ∷ more) ≡ with_more old.parted more
no_rows old few more = no_row old.parted more few

-- the line that ends a body is a full stop
pub is_end : (line : List ℕ) → is_body_end line ≡ true → line ≡ codes "."
is_end line is = (bytes_eq-Decides line (codes ".")).0 is

-- where the input stopped within the body of an import
pub breaks_of :
    (fault : Fault) (format : Format) (time : ℕ) (at : Place) (left_at left_after : Option (List ℕ))
    → IsCutShort (Some (Import format time)) at left_at left_after
    → BreaksOff fault (Some (Import format time)) at left_at left_after
breaks_of Input format time at left_at left_after cut = cut
breaks_of InputTooLong format time at left_at left_after cut = cut
breaks_of Usage format time at left_at left_after cut = tt
breaks_of (BadLine number) format time at left_at left_after cut = tt
breaks_of Output format time at left_at left_after cut = tt
breaks_of Memory format time at left_at left_after cut = tt
