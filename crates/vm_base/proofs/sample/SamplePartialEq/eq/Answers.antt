use Rattle.std.proofs.Common.{◌≡◌, ◌∙◌, arith}
use Rattle.std.proofs.lemmas.Bool.Decides.{nat_tests}
use Rattle.vm_base.proofs.SampleForms.{alike, unlike, same_sign, other_sign}
use Rattle.vm_base.proofs.sample.SamplePartialEq.eq.Goals as goal
use Rattle.vm_base.proofs.sample.SamplePartialEq.eq.Goals.{then-self-other, else-self-other}

pub returns-then-self-other-2 : goal.returns-then-self-other-2
returns-then-self-other-2 c =
    let s = c.self.inside in
    let o = c.other.inside in
    elim c.if-self-other.branch [
      | then-self-other w ↦
          let signs = same_sign s.negative o.negative w.if-self-other.true in
          let sizes : s.size ≡ o.size =
          grind (arith, nat_tests, w.value-is, c.if-self-other-2.true) in
          alike s o c.args.self.now c.args.other.now
          c.self.invariant c.other.invariant c.self.view_is c.other.view_is signs sizes
      | else-self-other w ↦ absurd (cc (w.value-is, w.if-self-other.false, c.if-self-other-2.true))
    ]

pub returns-else-self-other-2 : goal.returns-else-self-other-2
returns-else-self-other-2 c =
    let s = c.self.inside in
    let o = c.other.inside in
    let differ = unlike s o c.args.self.now c.args.other.now
    c.self.invariant c.other.invariant c.self.view_is c.other.view_is in
    c.if-self-other-2.false
    ∙ elim c.if-self-other.branch [
      | then-self-other w ↦
          let sizes : s.size ≡ o.size → ⊥ =
          λ h. grind (arith, nat_tests, w.value-is, c.if-self-other-2.false) in
          differ (λ _ h _. sizes h)
      | else-self-other w ↦
          differ (λ h _ _. other_sign s.negative o.negative w.if-self-other.false h)
    ]
