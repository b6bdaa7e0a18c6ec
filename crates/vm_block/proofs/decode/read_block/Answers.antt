-- All that was read, out of order.
use Rattle.std.proofs.Common.{◌≡◌, true, map, refl, ap, sym, ◌∙◌, subst}
use Rattle.vm_base.specs.Sorted.{IsUp}
use Rattle.vm_base.specs.Stamped.{is_in_order}
use Rattle.vm_block.specs.Block.{times_of, rise_from, scaled_by, SaysTimes, EndsAtLast}
use Rattle.std.proofs.Common.{pos}
use Rattle.vm_block.specs.Block.BreaksAt.{values_fall}
use Rattle.vm_block.proofs.decode.read_block.Goals as goal

pub returns-then-not-are_in_order-clause-broken : goal.returns-then-not-are_in_order-clause-broken
returns-then-not-are_in_order-clause-broken c =
    let h = c.args.header.now in
    let body = c.args.body.now in
    let samples = c.in_ok-samples.samples in
    let times : times_of samples ≡ c.in_ok-times.times.items = c.in_ok-samples.ensures.times
    ∙ c.deref-2.ensures.value in
    values_fall samples c.in_ok-mantissas.mantissas.items
    (subst (SaysTimes h body) (sym times) c.in_ok-times.ensures.times)
    (ap (rise_from (pos 0)) times ∙ c.in_ok-times.ensures.rise)
    (subst (EndsAtLast h) (sym times) c.in_ok-times.ensures.last)
    c.in_ok-mantissas.ensures.column
    (c.in_ok-samples.ensures.values ∙ ap (map (scaled_by h.exponent)) c.deref-3.ensures.value)
    c.in_ok-samples.ensures.exponent
    (λ up.
    let yes : c.are_in_order.result ≡ true =
    c.are_in_order.ensures.1 (subst (IsUp is_in_order) (sym c.as_slice.ensures) up) in
    absurd (cc (c.if-not-are_in_order.true)))
    refl
