-- One block more, and no rest.
use Rattle.std.proofs.Common.{◌≡◌, ◌≤◌, ◌++◌, ◌∷◌, [], true, List, take, drop, length, ap, ap₂, sym, subst, ◌∙◌, arith}
use Rattle.std.proofs.lemmas.List.{length-take-le, append-nil}
use Rattle.std.specs.List.{AllByRecursion}
use Rattle.vm_base.specs.declared.stamped.Stamped.{Stamped}
use Rattle.vm_block.specs.Cut.{fit_one_block, joined}
use Rattle.vm_block.proofs.Cuts.{FullBefore, full_more, full_all, each_more, whole_more, no_rest}
use Rattle.vm_block.proofs.cutting.cut.Goals as goal

abbrev Fits : List Stamped → Type 0
Fits block = (1 ≤ length block) × (fit_one_block block ≡ true)

pub cuts-preserved : goal.cuts-preserved
cuts-preserved c =
    let n = c.block_len.result in
    let rest = c.cuts.rest.now in
    let said = c.block_len.ensures in
    let front = c.split_at.ensures.front in
    let back = c.split_at.ensures.back in
    let blocks : c.push_copy.new.blocks ≡ c.cuts.blocks ++ take n rest ∷ [] =
    c.in_ok-push_copy.ensures ∙ ap (λ (b : List Stamped). c.cuts.blocks ++ b ∷ []) front in
    let len : 1 ≤ length (take n rest) =
    omega (arith, length-take-le n rest said.within, said.some) in
    record {
      whole = ap₂ (λ bs r. joined bs ++ r) blocks back
          ∙ whole_more c.cuts.blocks rest c.args.samples.now n c.cuts.invariant.whole;
      each = subst (AllByRecursion Fits) (sym blocks)
          (each_more Fits c.cuts.blocks (take n rest) c.cuts.invariant.each (len, said.fits));
      full =
          subst (λ r. FullBefore c.push_copy.new.blocks r) (sym back)
          (subst (λ bs. FullBefore bs (drop n rest)) (sym blocks)
          (full_more c.cuts.blocks rest n said.some said.within said.longest
          c.cuts.invariant.full));
    }

pub returns : goal.returns
returns c =
    let none : c.cuts.rest.now ≡ [] =
    no_rest c.cuts.rest.now (sym c.is_empty.ensures ∙ c.cuts-test.false) in
    record {
      whole = sym (append-nil (joined c.cuts.blocks))
          ∙ ap (λ r. joined c.cuts.blocks ++ r) (sym none) ∙ c.cuts.invariant.whole;
      each = c.cuts.invariant.each;
      full = full_all c.cuts.blocks c.cuts.rest.now c.cuts.invariant.full;
    }
