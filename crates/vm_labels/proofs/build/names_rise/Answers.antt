use Rattle.std.proofs.Common.{◌≡◌, ◌+◌, ◌-◌, true, drop, sym, ap, ◌∙◌, arith}
use Rattle.std.proofs.lemmas.List.{length-drop}
use Rattle.vm_labels.specs.Labels.{is_below, names_rise}
use Rattle.vm_labels.proofs.BuildLaws.{rise_step, rise_short}
use Rattle.vm_labels.proofs.build.names_rise.Goals as goal

pub loop-at-preserved : goal.loop-at-preserved
loop-at-preserved c =
    let pairs = c.args.pairs.now in
    let at = c.loop-at.at in
    let p = c.index-pairs-at.result in
    let q = c.index-pairs-at-in-loop-at.result in
    let rises : is_below p.name q.name ≡ true =
    rw (c.index-pairs-at.is, c.index-pairs-at-in-loop-at.is)
    (sym c.is_below.ensures ∙ c.if-not-is_below.false) in
    let step =
    rise_step pairs at p q c.loop-at.invariant.0 c.loop-at-test.true c.index-pairs-at.is
    c.index-pairs-at-in-loop-at.is rises in
    let same : at + 1 - 1 ≡ at = omega arith in
    (omega arith, ap (λ n. names_rise (drop n pairs)) same ∙ sym step ∙ c.loop-at.invariant.1)

pub returns : goal.returns
returns c =
    sym (rise_short (drop (c.loop-at.at - 1) c.args.pairs.now)
    (omega (arith, length-drop (c.loop-at.at - 1) c.args.pairs.now))) ∙ c.loop-at.invariant.1
