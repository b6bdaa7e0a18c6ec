use Rattle.std.proofs.Common.{◌≡◌, ◌++◌, take, length, refl, sym, ap, ◌∙◌}
use Rattle.std.proofs.lemmas.List.{take_rest}
use Rattle.std.specs.Prelude.{slice_index}
use Rattle.vm_labels.specs.Text.{escaped_byte}
use Rattle.vm_labels.proofs.TextLaws.{escape_step, escape_end, kept_twice, front_kept}
use Rattle.vm_labels.proofs.text.put_escaped.Goals as goal

pub runs-preserved : goal.runs-preserved
runs-preserved c =
    let out = c.runs.out.items in
    let rest = c.runs.rest.now in
    let at = c.in-Some.at in
    let grown : c.extend_from_slice-in-Some.new.self.items ≡ (out ++ take at rest)
    ++ escaped_byte (slice_index rest at) =
    c.in_ok-extend_from_slice-2.ensures.items
    ∙ ap (λ t. t ++ c.escape.result.now) c.in_ok-extend_from_slice.ensures.items
    ∙ ap (λ t. (out ++ take at rest) ++ t) c.escape.ensures in
    let step =
    escape_step out rest at (slice_index rest at) _ c.in-Some.ensures.0 refl
    c.runs.invariant.done in
    record {
      done = rw (take_rest, grown) step;
      kept =
          kept_twice c.args.out.now.items out c.extend_from_slice-in-Some.new.self.items
          c.runs.invariant.kept
          (ap (take (length out)) grown
          ∙ front_kept out (take at rest) (escaped_byte (slice_index rest at)));
    }

pub returns-clause-ok : goal.returns-clause-ok
returns-clause-ok c =
    c.in_ok-extend_from_slice-3.ensures.items
    ∙ ap (λ t. c.runs.out.items ++ t) (sym (escape_end c.runs.rest.now c.in_default.ensures))
    ∙ c.runs.invariant.done
