use Rattle.std.proofs.Common.{ap, sym, ◌∙◌, ◌≡◌, ◌+◌, ◌-◌, suc, length, arith}
use Rattle.vm_jsonline.specs.Reading.{time_at}
use Rattle.vm_jsonline.proofs.Loops.{items_stop, items_out, items_on, onto, onto_end, onto_none, onto_on}
use Rattle.vm_jsonline.proofs.values.times_inside.Goals as goal

pub returns-in_default : goal.returns-in_default
returns-in_default c =
    c.loop-item.invariant
    ∙ onto_end time_at c.loop-item.times
    _ (items_stop (length c.args.text.now - c.loop-item._item) c.loop-item.rest.now
    (sym c.in_default.ensures))

pub returns-in_default-time_at : goal.returns-in_default-time_at
returns-in_default-time_at c =
    let fuel = length c.args.text.now - c.loop-item._item in
    let less = length c.args.text.now - (c.loop-item._item + 1) in
    let next : fuel ≡ suc less = omega arith in
    c.loop-item.invariant
    ∙ ap (onto time_at c.loop-item.times)
    (items_on fuel less c.loop-item.rest.now _ _ next (sym c.in-Some.ensures))
    ∙ onto_none time_at c.loop-item.times _ _ (sym c.in_default-time_at.ensures)

pub loop-item-preserved : goal.loop-item-preserved
loop-item-preserved c =
    let fuel = length c.args.text.now - c.loop-item._item in
    let less = length c.args.text.now - (c.loop-item._item + 1) in
    let next : fuel ≡ suc less = omega arith in
    c.loop-item.invariant
    ∙ ap (onto time_at c.loop-item.times)
    (items_on fuel less c.loop-item.rest.now _ _ next (sym c.in-Some.ensures))
    ∙ onto_on time_at c.loop-item.times _ _ _ _ (sym c.in-Some-time_at.ensures)
    c.in_ok-push.ensures.ok

pub returns : goal.returns
returns c =
    c.loop-item.invariant
    ∙ onto_end time_at c.loop-item.times
    _ (items_out (length c.args.text.now - c.loop-item._item) c.loop-item.rest.now (omega arith))
