use Rattle.std.proofs.Common.{◌+◌, ◌++◌, ◌∷◌, [], ap, ap₂, ◌∙◌, sym, subst, drop, get_or}
use Rattle.vm_index.specs.Numbers.{Rise, merged}
use Rattle.vm_index.proofs.NumberLaws.{merged_more, rises_above}
use Rattle.vm_index.proofs.numbers.put_all.Goals as goal

pub loop-n-preserved : goal.loop-n-preserved
loop-n-preserved c =
    let n = get_or c.args.a.now c.loop-n.n-index 0 in
    let grown = c.in_ok-push.ensures.items
    ∙ ap (λ ms. ms ++ n ∷ [])
    (c.in_ok-extend_from_slice.ensures.items
    ∙ ap (λ ms. c.loop-n.out.items ++ ms) c.part_at-parts.ensures.below) in (
      ap₂ (λ x y. x ++ merged (drop (c.loop-n.n-index + 1) c.args.a.now) y) grown
          c.part_at-parts.ensures.above
          ∙ merged_more c.args.a.now c.loop-n.n-index c.loop-n.rest.now c.loop-n.out.items
          (c.args.out.now.items ++ merged c.args.a.now c.args.b.now) c.loop-n-test.true
          c.loop-n.invariant.0,
      subst Rise (sym c.part_at-parts.ensures.above)
          (rises_above n c.loop-n.rest.now c.loop-n.invariant.1),
    )
