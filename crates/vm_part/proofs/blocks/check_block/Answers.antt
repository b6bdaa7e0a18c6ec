-- A block more, or why there is none.
use Rattle.std.proofs.Common.{◌≡◌, ◌+◌, ◌-◌, length, take, drop, refl, ap, sym, ◌∙◌, arith}
use Rattle.std.proofs.lemmas.Result.{err_from_is_err_and}
use Rattle.vm_base.specs.Sorted.{last_of}
use Rattle.vm_part.proofs.BlockLaws.{joins, no_body_there, no_header_there, not_there, rows_within}
use Rattle.vm_part.proofs.blocks.check_block.Goals as goal

pub returns-in_err-header-clause-broken : goal.returns-in_err-header-clause-broken
returns-in_err-header-clause-broken c =
    let p = err_from_is_err_and c.from_residual.result c.from_residual.ensures.1 in
    rw (p.1, p.2)
    (no_header_there c.args.room c.args.entry.now c.args.seen.now c.args.rest.now
    c.in_err-header.field-0.0.at c.in_err-header.ensures.broken)

pub returns-then-not-may_come-clause-broken : goal.returns-then-not-may_come-clause-broken
returns-then-not-may_come-clause-broken c =
    not_there c.args.room c.args.entry.now c.args.seen.now c.args.rest.now c.in_ok-header.header
    c.in_ok-header.ensures.header
    (sym c.may_come.ensures ∙ c.if-not-may_come.true)

pub returns-in_err-samples-clause-broken : goal.returns-in_err-samples-clause-broken
returns-in_err-samples-clause-broken c =
    let h = c.in_ok-header.header in
    let rest = c.args.rest.now in
    let n : 40 + (h.times_len + h.values_len) - 40 ≡ h.times_len + h.values_len = omega arith in
    let p = err_from_is_err_and c.from_residual-in_err-samples.result
    c.from_residual-in_err-samples.ensures.1 in
    rw (p.1, p.2)
    (no_body_there c.args.room c.args.entry.now c.args.seen.now rest
    (take (40 + (h.times_len + h.values_len) - 40) (drop 40 rest)) h
    c.in_err-samples.field-0.0 c.in_ok-header.ensures.header
    (sym c.may_come.ensures ∙ c.if-not-may_come.false) c.requires.room
    (ap (λ m. take m (drop 40 rest)) n) c.in_err-samples.ensures.broken)

pub see-requires-clause-rows : goal.see-requires-clause-rows
see-requires-clause-rows c =
    let within =
    rows_within c.args.room c.args.entry.now c.in_ok-header.header _ c.in_ok-samples.samples
    c.args.seen.now
    (sym c.may_come.ensures ∙ c.if-not-may_come.false) c.in_ok-samples.ensures.block in
    let rows = within.0 in
    let same = ap length c.as_slice.ensures in
    omega (arith, rows, same)

pub returns-clause-joins : goal.returns-clause-joins
returns-clause-joins c =
    let h = c.in_ok-header.header in
    let rest = c.args.rest.now in
    let n : 40 + (h.times_len + h.values_len) - 40 ≡ h.times_len + h.values_len = omega arith in
    joins c.args.room c.args.entry.now rest
    (take (40 + (h.times_len + h.values_len) - 40) (drop 40 rest)) h c.in_ok-samples.samples
    c.args.seen.now c.see.new.seen _ c.in_ok-header.ensures.header
    (sym c.may_come.ensures ∙ c.if-not-may_come.false) c.requires.room
    (ap (λ m. take m (drop 40 rest)) n) c.in_ok-samples.ensures.block c.see.ensures.blocks
    (c.see.ensures.rows ∙ ap (λ xs. c.args.seen.now.rows + length xs) c.as_slice.ensures)
    (c.see.ensures.last ∙ ap last_of c.as_slice.ensures) refl

pub returns-clause-rows : goal.returns-clause-rows
returns-clause-rows c =
    let within =
    rows_within c.args.room c.args.entry.now c.in_ok-header.header _ c.in_ok-samples.samples
    c.args.seen.now
    (sym c.may_come.ensures ∙ c.if-not-may_come.false) c.in_ok-samples.ensures.block in
    let rows = within.0 in
    let same = ap length c.as_slice.ensures in
    omega (arith, rows, same, c.see.ensures.rows)
