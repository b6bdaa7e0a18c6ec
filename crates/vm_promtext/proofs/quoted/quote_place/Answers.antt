use Rattle.std.proofs.Common.{◌≡◌, ◌+◌, ap, sym, ◌∙◌, arith, false, drop, drop-drop}
use Rattle.std.specs.Option.{option_map}
use Rattle.std.specs.Prelude.{slice_index}
use Rattle.std.proofs.lemmas.List.{take_rest, get_or-drop}
use Rattle.vm_promtext.specs.Reading.{quote_place}
use Rattle.vm_promtext.proofs.TokenLaws.{quote_none, quote_found, quote_escaped, is_escape}
use Rattle.vm_promtext.proofs.quoted.quote_place.Goals as goal

pub escapes-preserved : goal.escapes-preserved
escapes-preserved c =
    let text = c.args.text.now in
    let from = c.escapes.from in
    let n = c.in-Some.step in
    let found = rw take_rest at c.in-Some.ensures in
    let here : slice_index (drop from text) n ≡ 92 =
    is_escape (slice_index (drop from text) n) found.1
    (λ is. c.if-text-from-eq34.false (sym (get_or-drop from text n 0) ∙ is)) in
    let read =
    quote_escaped text from n c.escapes.invariant found.0.high
    (λ k below. found.0.before k (omega arith) below) here in
    read ∙ ap (λ rest. option_map (λ at. from + (n + 2) + at) (quote_place false rest))
    (drop-drop (n + 2) from text)

pub returns-in_default-clause-value : goal.returns-in_default-clause-value
returns-in_default-clause-value c =
    let none = rw take_rest at c.in_default.ensures in
    quote_none c.args.text.now c.escapes.from c.escapes.invariant
    (λ k below. none k (omega arith) below)

pub returns-then-text-from-eq34-clause-value : goal.returns-then-text-from-eq34-clause-value
returns-then-text-from-eq34-clause-value c =
    let text = c.args.text.now in
    let from = c.escapes.from in
    let n = c.in-Some.step in
    let found = rw take_rest at c.in-Some.ensures in
    quote_found text from n c.escapes.invariant found.0.high
    (λ k below. found.0.before k (omega arith) below)
    (get_or-drop from text n 0 ∙ c.if-text-from-eq34.true)
