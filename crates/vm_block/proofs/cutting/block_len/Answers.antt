-- One sample more, or the block's end.
use Rattle.std.proofs.Common.{◌≡◌, true, take, refl, sym, subst, ◌∙◌, arith}
use Rattle.vm_block.specs.Cut.{fit_one_block}
use Rattle.vm_block.proofs.Cuts.{shared_more, none_more, fits_so_far}
use Rattle.vm_block.proofs.cutting.block_len.Goals as goal

pub returns-in_default-clause-fits : goal.returns-in_default-clause-fits
returns-in_default-clause-fits c =
    fits_so_far c.args.samples.now c.loop-place.place c.loop-place.shared (omega arith)
    (omega arith) c.loop-place.invariant

pub returns-in_default-clause-longest : goal.returns-in_default-clause-longest
returns-in_default-clause-longest c =
    λ inside.
    none_more c.args.samples.now c.loop-place.place c.index-samples-place.result
    _ c.loop-place.shared c.of.result inside refl
    c.loop-place.invariant c.of.ensures (sym c.in_default.is ∙ c.join.ensures)

pub loop-place-preserved : goal.loop-place-preserved
loop-place-preserved c =
    shared_more c.args.samples.now c.loop-place.place c.index-samples-place.result
    _ c.loop-place.shared c.of.result c.in-Some.more
    (omega arith) refl c.loop-place.invariant c.of.ensures (sym c.in-Some.is ∙ c.join.ensures)

pub returns-clause-fits : goal.returns-clause-fits
returns-clause-fits c =
    let last : c.loop-place.place ≡ c.min-most.result = omega arith in
    subst (λ n. fit_one_block (take n c.args.samples.now) ≡ true) last
    (fits_so_far c.args.samples.now c.loop-place.place c.loop-place.shared (omega arith)
    (omega arith) c.loop-place.invariant)
