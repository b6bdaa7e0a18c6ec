use Rattle.std.proofs.Common.{rules, ◌^◌, ◌-◌, pos, ◌*ℤ◌, ap, ◌∙◌, arith, w64, to_z, of_z}
use Rattle.std.proofs.lemmas.Int.{to_z-of_z}
use Rattle.std.specs.Int.{w128}
use Rattle.vm_decimal.proofs.Levels.{at_level, few_at}
use Rattle.vm_decimal.proofs.level.at_one_level.Goals as goal

pub returns : goal.returns
returns c =
    let s = c.one.inside in
    let t = c.two.inside in
    let first = c.in_ok-first in
    let second = c.in_ok-second in
    let low = c.min-shift.result in
    let least = c.min-shift.ensures in
    let m = to_z-of_z w64 first.first (search rules) in
    let n = to_z-of_z w64 second.second (search rules) in
    let one = to_z-of_z w128 c.raised.result (search rules) ∙ c.raised.ensures in
    let two = to_z-of_z w128 c.raised-2.result (search rules) ∙ c.raised-2.ensures in
    let gap = 10 ^ (s.shift - low) in
    let other_gap = 10 ^ (t.shift - low) in
    record {
      one_is =
          at_level s.mantissa (to_z w128 (of_z w128 c.raised.result)) s.shift low c.args.one
          (omega arith) c.one.view_is
          (one ∙ ap (λ k. k *ℤ pos gap)
          (m ∙ first.ensures.value ∙ to_z-of_z w128 s.mantissa (search rules)));
      two_is =
          at_level t.mantissa (to_z w128 (of_z w128 c.raised-2.result)) t.shift low c.args.two
          (omega arith) c.two.view_is
          (two ∙ ap (λ k. k *ℤ pos other_gap)
          (n ∙ second.ensures.value ∙ to_z-of_z w128 t.mantissa (search rules)));
      few = few_at first.first (to_z w128 (of_z w128 c.raised.result)) (s.shift - low)
          first.ensures.few
          c.if-gap-gt-MOST.false (one ∙ ap (λ k. k *ℤ pos gap) m);
      few_too =
          few_at second.second (to_z w128 (of_z w128 c.raised-2.result)) (t.shift - low)
          second.ensures.few
          c.if-other_gap-gt-MOST.false (two ∙ ap (λ k. k *ℤ pos other_gap) n);
      high = omega (arith, c.one.invariant.high);
    }
