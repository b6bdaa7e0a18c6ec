-- The laws of what is read, at these bytes.
use Rattle.std.proofs.Common.{length, w64, arith}
use Rattle.std.proofs.lemmas.Int.{to_z-of_z}
use Rattle.vm_codec.proofs.Integers.{bytes_from}
use Rattle.vm_codec.proofs.Values.{on_ok, if_err}
use Rattle.vm_codec.proofs.Broken.{is_column, is_broken, is_again}
use Rattle.vm_codec.proofs.reading.decode.Goals as goal

pub returns-clause-column : goal.returns-clause-column
returns-clause-column c =
    let bytes = bytes_from c.args.bytes.now (λ i. omega (arith, c.type_inv.bytes i)) in
    on_ok c.decode_all.result _ _
    (λ read.
    is_column c.args.coding c.args.first (length c.args.into.now) c.args.bytes.now
    c.decode_all.new.into bytes
    c.requires.bound c.requires.some (rw (← to_z-of_z w64 c.args.first c.ranges.first) read))
    c.decode_all.ensures.read

pub returns-clause-only : goal.returns-clause-only
returns-clause-only c =
    let same = to_z-of_z w64 c.args.first c.ranges.first in
    λ values column.
    is_again c.args.coding c.args.first (length c.args.into.now) c.args.bytes.now values
    c.decode_all.result
    c.decode_all.new.into (rw (← same) c.decode_all.ensures.read)
    (rw (← same) c.decode_all.ensures.broken) column

pub returns-clause-broken : goal.returns-clause-broken
returns-clause-broken c =
    let bytes = bytes_from c.args.bytes.now (λ i. omega (arith, c.type_inv.bytes i)) in
    if_err c.decode_all.result _ _
    (λ e read.
    is_broken c.args.coding c.args.first (length c.args.into.now) c.args.bytes.now e.at bytes
    c.requires.bound c.requires.some (rw (← to_z-of_z w64 c.args.first c.ranges.first) read))
    c.decode_all.ensures.broken
