use Rattle.std.proofs.Common.{◌+◌, ◌++◌, ap, ap₂, ◌∙◌, sym, subst, drop, get_or}
use Rattle.vm_index.specs.Numbers.{Rise, kept}
use Rattle.vm_index.proofs.NumberLaws.{kept_more, kept_less, rises_above}
use Rattle.vm_index.proofs.numbers.put_kept.Goals as goal
use Rattle.vm_index.proofs.numbers.put_kept.Goals.{then-parts-among+in_ok-push, else-parts-among}

pub loop-n-preserved : goal.loop-n-preserved
loop-n-preserved c =
    let n = get_or c.args.a.now c.loop-n.n-index 0 in
    let whole = c.args.out.now.items ++ kept c.args.among c.args.b.now c.args.a.now in
    let rises : Rise c.part_at-parts.result.above.now =
    subst Rise (sym c.part_at-parts.ensures.above)
    (rises_above n c.loop-n.rest.now c.loop-n.invariant.1) in
    elim c.if-parts-among.branch [
      | then-parts-among+in_ok-push w ↦ (
        ap₂ (λ x y. x ++ kept c.args.among y (drop (c.loop-n.n-index + 1) c.args.a.now))
            (ap (λ v. v.items) w.out-is ∙ w.in_ok-push.ensures.items) c.part_at-parts.ensures.above
            ∙ kept_more c.args.among c.part_at-parts.result.found c.args.a.now c.loop-n.n-index
            c.loop-n.rest.now c.loop-n.out.items whole c.loop-n-test.true c.requires.a
            c.part_at-parts.ensures.found w.if-parts-among.true c.loop-n.invariant.0,
        rises,
      )
      | else-parts-among w ↦ (
        ap₂ (λ x y. x ++ kept c.args.among y (drop (c.loop-n.n-index + 1) c.args.a.now))
            (ap (λ v. v.items) w.out-is) c.part_at-parts.ensures.above
            ∙ kept_less c.args.among c.part_at-parts.result.found c.args.a.now c.loop-n.n-index
            c.loop-n.rest.now c.loop-n.out.items whole c.loop-n-test.true c.requires.a
            c.part_at-parts.ensures.found w.if-parts-among.false c.loop-n.invariant.0,
        rises,
      )
    ]
