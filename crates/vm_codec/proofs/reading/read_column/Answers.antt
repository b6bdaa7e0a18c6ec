-- By the coding.
use Rattle.std.proofs.Common.{◌-◌, length, w64}
use Rattle.std.proofs.lemmas.Int.{to_z-of_z}
use Rattle.vm_codec.proofs.Values.{const_column, differences_column}
use Rattle.vm_codec.proofs.reading.read_column.Goals as goal

pub returns-in-Const-clause-read : goal.returns-in-Const-clause-read
returns-in-Const-clause-read c =
    rw c.in-Const.is
    (const_column c.args.first _ (length c.args.into.now) c.fill.new.self c.args.bytes.now
    c.requires.some
    (to_z-of_z w64 c.args.first c.ranges.first) (c.fill.ensures.after (λ y h. h)))

pub returns-in-NearestDelta2-clause-read : goal.returns-in-NearestDelta2-clause-read
returns-in-NearestDelta2-clause-read c =
    let column =
    differences_column c.args.coding c.args.first (length c.args.into.now - 1) c.args.bytes.now
    c.in-NearestDelta2.is in
    rw (column, ← to_z-of_z w64 c.args.first c.ranges.first) c.read_differences.ensures.read

pub returns-in-NearestDelta2-clause-broken : goal.returns-in-NearestDelta2-clause-broken
returns-in-NearestDelta2-clause-broken c =
    let column =
    differences_column c.args.coding c.args.first (length c.args.into.now - 1) c.args.bytes.now
    c.in-NearestDelta2.is in
    rw (column, ← to_z-of_z w64 c.args.first c.ranges.first) c.read_differences.ensures.broken
