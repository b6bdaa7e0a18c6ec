-- What the bytes say, or where they break.
use Rattle.std.proofs.Common.{refl, sym, w64, arith}
use Rattle.std.proofs.lemmas.Int.{to_z-of_z}
use Rattle.std.proofs.lemmas.List.{take_at}
use Rattle.vm_block.proofs.Blocks.{moved_column, moved_broken, broken_within}
use Rattle.vm_block.proofs.decode.read_column.Goals as goal

pub returns-in-Ok-clause-values : goal.returns-in-Ok-clause-values
returns-in-Ok-clause-values c =
    moved_column c.args.coding _ c.args.first _ c.args.count c.args.column.now _ c.decode.new.into _
    (to_z-of_z w64 c.args.first c.ranges.first)
    (omega (arith, c.deref_mut.ensures.len, c.in_ok-values.ensures.len)) refl
    (sym (take_at c.decode.new.into _ c.in_ok-values.values.len
    (omega (arith, c.deref_mut.ensures.len))))
    c.in-Ok.ensures.column

pub returns-in-Err-clause-broken : goal.returns-in-Err-clause-broken
returns-in-Err-clause-broken c =
    let broken =
    moved_broken c.args.coding _ c.args.first _ c.args.count c.args.column.now
    _ c.in-Err.broken.at
    (to_z-of_z w64 c.args.first c.ranges.first)
    (omega (arith, c.deref_mut.ensures.len, c.in_ok-values.ensures.len)) refl
    c.in-Err.ensures.broken in (
      broken,
      broken_within c.args.coding c.args.first c.args.count c.args.column.now c.in-Err.broken.at
          broken,
    )
