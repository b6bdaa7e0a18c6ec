-- A column that takes all of the bytes.
use Rattle.std.proofs.Common.{◌≡◌, ◌-◌, length, Ok, Err, ap, sym, ◌∙◌, w64}
use Rattle.std.proofs.lemmas.Int.{to_z-of_z}
use Rattle.vm_codec.specs.inner.Reading.{all_read, onto, column_at}
use Rattle.vm_codec.proofs.Values.{decoded-lone, decoded-column, all_read-all, all_read-left, on_ok, if_err}
use Rattle.vm_codec.proofs.reading.decode_all.Goals as goal

pub returns-then-is_lone-clause-broken : goal.returns-then-is_lone-clause-broken
returns-then-is_lone-clause-broken c =
    decoded-lone c.args.coding c.args.first (length c.args.into.now) c.args.bytes.now
    (sym c.is_lone.ensures ∙ c.if-is_lone.true)

pub returns-in-Ok-clause-read : goal.returns-in-Ok-clause-read
returns-in-Ok-clause-read c =
    let column =
    decoded-column c.args.coding c.args.first (length c.args.into.now) c.args.bytes.now
    (sym c.is_lone.ensures ∙ c.if-is_lone.false) in
    let read :
    onto c.args.first
    (column_at c.args.coding c.args.first (length c.args.into.now - 1) c.args.bytes.now)
    ≡ Ok (c.read_column.new.into, c.in-Ok.rest.now) =
    rw (← to_z-of_z w64 c.args.first c.ranges.first) c.in-Ok.ensures.read in
    on_ok c.nothing_left.result _ _
    (λ none. column ∙ ap (all_read (length c.args.bytes.now)) read ∙ all_read-all _ _ _ none)
    c.nothing_left.ensures.ok

pub returns-in-Ok-clause-broken : goal.returns-in-Ok-clause-broken
returns-in-Ok-clause-broken c =
    let column =
    decoded-column c.args.coding c.args.first (length c.args.into.now) c.args.bytes.now
    (sym c.is_lone.ensures ∙ c.if-is_lone.false) in
    let read :
    onto c.args.first
    (column_at c.args.coding c.args.first (length c.args.into.now - 1) c.args.bytes.now)
    ≡ Ok (c.read_column.new.into, c.in-Ok.rest.now) =
    rw (← to_z-of_z w64 c.args.first c.ranges.first) c.in-Ok.ensures.read in
    if_err c.nothing_left.result _ _
    (λ e left. column ∙ ap (all_read (length c.args.bytes.now)) read ∙ all_read-left _ _ _ left.0
    ∙ ap Err (sym left.1))
    c.nothing_left.ensures.broken

pub returns-in-Err-clause-broken : goal.returns-in-Err-clause-broken
returns-in-Err-clause-broken c =
    let column =
    decoded-column c.args.coding c.args.first (length c.args.into.now) c.args.bytes.now
    (sym c.is_lone.ensures ∙ c.if-is_lone.false) in
    column ∙ rw (← to_z-of_z w64 c.args.first c.ranges.first) c.in-Err.ensures.broken
