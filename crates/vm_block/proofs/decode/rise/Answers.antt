-- The test of the times so far is that of the rest.
use Rattle.std.proofs.Common.{◌^◌, ◌&&◌, int_le, int_lt, pos, slice_index_or, ap, sym, ◌∙◌, w64, to_z, rules}
use Rattle.std.proofs.lemmas.Int.{to_z-of_z}
use Rattle.vm_block.proofs.Orders.{rise-stuck, rise-more, rise-done}
use Rattle.vm_block.proofs.decode.rise.Goals as goal

pub returns-then-not-is_next_time : goal.returns-then-not-is_next_time
returns-then-not-is_next_time c =
    let last = to_z w64 c.loop-time.last-bits in
    let item = slice_index_or c.args.times.now c.loop-time.time-index (pos 0) in
    let same = to_z-of_z w64 item (search rules) in
    rise-stuck c.loop-time.time-index last c.args.times.now _ c.loop-time-test.true
    (ap (λ t. int_le last t && int_lt t (pos (2 ^ 48))) (sym same) ∙ sym c.is_next_time.ensures
    ∙ c.if-not-is_next_time.true)
    c.loop-time.invariant

pub loop-time-preserved : goal.loop-time-preserved
loop-time-preserved c =
    let last = to_z w64 c.loop-time.last-bits in
    let item = slice_index_or c.args.times.now c.loop-time.time-index (pos 0) in
    let same = to_z-of_z w64 item (search rules) in
    rise-more c.loop-time.time-index last _ c.args.times.now _ c.loop-time-test.true
    (ap (λ t. int_le last t && int_lt t (pos (2 ^ 48))) (sym same) ∙ sym c.is_next_time.ensures
    ∙ c.if-not-is_next_time.false)
    same c.loop-time.invariant

pub returns : goal.returns
returns c =
    rise-done c.loop-time.time-index _ c.args.times.now _ c.loop-time-test.false
    c.loop-time.invariant
