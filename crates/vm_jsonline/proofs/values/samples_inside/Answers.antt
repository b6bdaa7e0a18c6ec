use Rattle.std.proofs.Common.{ap, sym, ◌∙◌, ◌≡◌, ◌+◌, ◌-◌, suc, length, arith}
use Rattle.std.proofs.lemmas.Result.{err_from_is_err_and}
use Rattle.vm_jsonline.specs.Reading.{sample_at}
use Rattle.vm_jsonline.proofs.Loops.{items_stop, items_out, items_on, onto, onto_end, onto_on, fails_all}
use Rattle.vm_jsonline.proofs.values.samples_inside.Goals as goal

pub returns-in_default : goal.returns-in_default
returns-in_default c =
    c.loop-item.invariant
    ∙ onto_end sample_at c.loop-item.samples
    _ (items_stop (length c.args.text.now - c.loop-item._item) c.loop-item.rest.now
    (sym c.in_default.ensures))

pub returns-in_err-read_sample_at : goal.returns-in_err-read_sample_at
returns-in_err-read_sample_at c =
    let fuel = length c.args.text.now - c.loop-item._item in
    let less = length c.args.text.now - (c.loop-item._item + 1) in
    let next : fuel ≡ suc less = omega arith in
    let p = err_from_is_err_and c.from_residual.result c.from_residual.ensures.1 in
    rw (p.1, p.2)
    (fails_all sample_at c.loop-item.samples c.in_err-read_sample_at.field-0.0
    _ _ _ (c.loop-item.invariant
    ∙ ap (onto sample_at c.loop-item.samples)
    (items_on fuel less c.loop-item.rest.now _ _ next (sym c.in-Some.ensures)))
    c.in_err-read_sample_at.ensures)

pub loop-item-preserved : goal.loop-item-preserved
loop-item-preserved c =
    let fuel = length c.args.text.now - c.loop-item._item in
    let less = length c.args.text.now - (c.loop-item._item + 1) in
    let next : fuel ≡ suc less = omega arith in
    c.loop-item.invariant
    ∙ ap (onto sample_at c.loop-item.samples)
    (items_on fuel less c.loop-item.rest.now _ _ next (sym c.in-Some.ensures))
    ∙ onto_on sample_at c.loop-item.samples _ _ _ _ c.in_ok-read_sample_at.ensures
    c.in_ok-push.ensures.ok

pub returns : goal.returns
returns c =
    c.loop-item.invariant
    ∙ onto_end sample_at c.loop-item.samples
    _ (items_out (length c.args.text.now - c.loop-item._item) c.loop-item.rest.now (omega arith))
