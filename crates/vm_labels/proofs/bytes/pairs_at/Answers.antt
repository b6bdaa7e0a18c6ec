use Rattle.std.proofs.Common.{◌++◌, ◌∷◌, [], None, ap, ◌∙◌}
use Rattle.std.specs.Prelude.{option_copied}
use Rattle.std.proofs.lemmas.Result.{err_from_is_err_and}
use Rattle.vm_labels.specs.Bytes.{pairs_at}
use Rattle.vm_labels.specs.declared.pair.Pair.{Pair}
use Rattle.vm_labels.proofs.ReadLoop.{goes_on, ends, is_done}
use Rattle.vm_labels.proofs.bytes.pairs_at.Goals as goal

pub returns-in_err-name : goal.returns-in_err-name
returns-in_err-name c =
    let p = err_from_is_err_and c.from_residual.result c.from_residual.ensures.1 in
    rw (p.1, p.2)
    (ends c.in_err-name.field-0.0 c.loop.pairs.items c.args.count c.loop.counter
    (option_copied c.loop.last) c.loop.rest.now (pairs_at c.args.count None c.args.bytes.now)
    c.loop-test.true c.in_err-name.ensures c.loop.invariant)

pub loop-preserved : goal.loop-preserved
loop-preserved c =
    let p : Pair = record { name = c.in_ok-name.name.now; value = c.in_ok-name.value.now } in
    let grown = c.in_ok-push.ensures.items
    ∙ ap (λ q. c.loop.pairs.items ++ q ∷ []) c.in_ok-made.ensures in
    rw grown
    (goes_on c.loop.pairs.items c.args.count c.loop.counter (option_copied c.loop.last)
    c.loop.rest.now p c.in_ok-name.after.now (pairs_at c.args.count None c.args.bytes.now)
    c.loop-test.true c.in_ok-name.ensures c.loop.invariant)

pub returns : goal.returns
returns c =
    is_done c.loop.pairs.items c.args.count c.loop.counter (option_copied c.loop.last)
    c.loop.rest.now (pairs_at c.args.count None c.args.bytes.now) c.loop-test.false c.loop.invariant
