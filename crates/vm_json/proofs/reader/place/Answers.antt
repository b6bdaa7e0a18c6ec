use Rattle.std.proofs.Common.{◌≡◌, take, arith, sym, subst, ◌∙◌, take_all, Some, None}
use Rattle.vm_base.specs.Run.{run}
use Rattle.vm_json.specs.Machine.{at, step, start, final}
use Rattle.vm_json.proofs.Places.{came, stuck, ended, short, may_end_there, ends_not, open_there, wrong_none, wrong_some}
use Rattle.vm_json.proofs.reader.place.Goals as goal
use Rattle.vm_json.proofs.reader.place.Goals.{else-ends-via-then-ends+else-is_none, else-ends-via-else-ends}

pub returns-in-None : goal.returns-in-None
returns-in-None c =
    wrong_some c.args.text.now c.loop-at.at
    (stuck c.args.text.now c.loop-at.at (at c.loop-at.phase c.loop-at.inside) c.loop-at-test.true
    c.loop-at.invariant (sym c.in-None.ensures))

pub loop-at-preserved : goal.loop-at-preserved
loop-at-preserved c =
    came c.args.text.now c.loop-at.at (at c.loop-at.phase c.loop-at.inside) c.loop-at-test.true
    c.loop-at.invariant
    (at c.in-Some.next c.step.new.inside) (sym c.in-Some.ensures)

pub returns-then-is_none : goal.returns-then-is_none
returns-then-is_none c =
    let s = at c.loop-at.phase c.loop-at.inside in
    let all : take c.loop-at.at c.args.text.now ≡ c.args.text.now =
    take_all c.loop-at.at c.args.text.now (omega arith) in
    wrong_none c.args.text.now
    (ended c.args.text.now s (subst (λ t. run step start t ≡ Some s) all c.loop-at.invariant)
    (may_end_there c.loop-at.phase c.loop-at.inside (sym c.ends.ensures ∙ c.if-ends.true)
    (sym c.is_none.ensures ∙ c.if-is_none.true)))

pub returns : goal.returns
returns c =
    let s = at c.loop-at.phase c.loop-at.inside in
    let all : take c.loop-at.at c.args.text.now ≡ c.args.text.now =
    take_all c.loop-at.at c.args.text.now (omega arith) in
    let none : final s ≡ None = elim c.else-ends.branch [
      | else-ends-via-then-ends+else-is_none w ↦
          open_there c.loop-at.phase c.loop-at.inside (sym c.ends.ensures ∙ w.if-ends.true)
          (sym w.is_none.ensures ∙ w.if-is_none.false)
      | else-ends-via-else-ends w ↦
          ends_not c.loop-at.phase c.loop-at.inside (sym c.ends.ensures ∙ w.if-ends.false)
    ] in
    wrong_some c.args.text.now
    _ (short c.args.text.now s (subst (λ t. run step start t ≡ Some s) all c.loop-at.invariant)
    none)
