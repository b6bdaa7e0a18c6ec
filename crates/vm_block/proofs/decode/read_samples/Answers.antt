-- Times and values of samples, or a fault of the exponent.
use Rattle.std.proofs.Common.{◌≡◌, pos, map, refl, ap, sym, ◌∙◌, w16, of_z, rules}
use Rattle.std.proofs.lemmas.Bool.{and_left, and_right}
use Rattle.std.specs.List.{list_all}
use Rattle.std.specs.Ordering.{int_eq}
use Rattle.vm_base.specs.Sample.{is_sample}
use Rattle.std.proofs.lemmas.Int.{to_z-of_z}
use Rattle.vm_block.specs.Block.{scaled_by, common_exponent, values_of}
use Rattle.vm_block.specs.Block.BreaksAt.{another_exponent}
use Rattle.vm_block.proofs.Headers.{ranges}
use Rattle.vm_block.proofs.Orders.{rise-abs}
use Rattle.vm_block.proofs.Stamps.{other_exponent}
use Rattle.vm_block.proofs.decode.read_samples.Goals as goal

pub stamp-requires-clause-exponent : goal.stamp-requires-clause-exponent
stamp-requires-clause-exponent c =
    let h = c.args.header.now in
    rw (to_z-of_z w16 h.exponent (search rules)) (ranges h c.requires.header).low

pub returns-in_default-clause-broken : goal.returns-in_default-clause-broken
returns-in_default-clause-broken c =
    let h = c.args.header.now in
    let ms = c.args.mantissas.now in
    let e = to_z-of_z w16 h.exponent (search rules) in
    let none = rw c.in_default.is at c.in_ok-samples.ensures.none in
    another_exponent c.args.times.now ms c.requires.times c.requires.rise c.requires.last
    c.requires.column
    (and_left (list_all is_sample (map (scaled_by h.exponent) ms))
    (int_eq (common_exponent (map (scaled_by h.exponent) ms)) h.exponent)
    (ap (λ z. list_all is_sample (map (scaled_by z) ms)) (sym e) ∙ none)) refl

pub returns-then-common_exponent-header-clause-broken :
    goal.returns-then-common_exponent-header-clause-broken
returns-then-common_exponent-header-clause-broken c =
    let h = c.args.header.now in
    let ms = c.args.mantissas.now in
    let e = to_z-of_z w16 h.exponent (search rules) in
    let are = rw c.in-Some.is at c.in_ok-samples.ensures.samples in
    let found : c.common_exponent.result ≡ common_exponent (map (scaled_by h.exponent) ms) =
    c.common_exponent.ensures ∙ ap (λ xs. common_exponent (values_of xs)) c.as_slice.ensures
    ∙ ap common_exponent (are.values ∙ ap (λ z. map (scaled_by z) ms) e) in
    another_exponent c.args.times.now ms c.requires.times c.requires.rise c.requires.last
    c.requires.column
    (and_right (list_all is_sample (map (scaled_by h.exponent) ms))
    (int_eq (common_exponent (map (scaled_by h.exponent) ms)) h.exponent)
    (other_exponent (common_exponent (map (scaled_by h.exponent) ms)) h.exponent
    (λ same. c.if-common_exponent-header.true (ap (of_z w16) (found ∙ same))))) refl

pub returns-clause-times : goal.returns-clause-times
returns-clause-times c =
    let are = rw c.in-Some.is at c.in_ok-samples.ensures.samples in
    are.times ∙ rise-abs (pos 0) c.args.times.now refl c.requires.rise
