use Rattle.std.proofs.Common.{rules, pos, ◌-ℤ◌, arith, w32}
use Rattle.std.proofs.lemmas.Int.{ints, to_z-of_z}
use Rattle.vm_decimal.proofs.Decs.{dec_of-none, dec_of-size}
use Rattle.vm_decimal.proofs.dec.placed.Goals as goal

pub returns-then-size-eq0 : goal.returns-then-size-eq0
returns-then-size-eq0 c =
    dec_of-none c.args.negative c.args.size (c.args.shift -ℤ pos 1000) (omega arith)

pub returns : goal.returns
returns c =
    let bare = c.without_noughts-size.result.0 in
    let noughts = c.without_noughts-size.result.1 in
    let shift = c.shift_behind.result in
    let e = c.args.shift -ℤ pos 1000 in
    let same = to_z-of_z w32 shift (search rules) in
    dec_of-size c.args.negative c.args.size bare noughts e {shift = shift}
    (rw same at c.in_form.ensures)
    c.without_noughts-size.ensures.whole c.without_noughts-size.ensures.last (omega (arith, ints))
