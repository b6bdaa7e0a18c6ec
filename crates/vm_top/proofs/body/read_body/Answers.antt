use Rattle.std.proofs.Common.{[], ◌∷◌, ◌++◌, codes, Some, IfErr, refl, sym, subst, ◌∙◌, arith, ◌≡◌, false}
use Rattle.vm_script.specs.Command.{is_body_end}
use Rattle.vm_script.specs.declared.command.Command.TheVariants.{Import}
use Rattle.vm_top.specs.inner.Playing.{BreaksOff, IsCutShort, Passes}
use Rattle.vm_top.specs.inner.Reading.{Comes, HasLine, IsLineOf}
use Rattle.vm_top.proofs.ActLaws.{at_err}
use Rattle.vm_top.proofs.BodyLaws.{all_more, breaks_of, gathers_more, is_end}
use Rattle.vm_top.proofs.InputLaws.{takes_more, takes_none}
use Rattle.vm_top.proofs.PlayLaws.{passes_none, passes_more, passes_line}
use Rattle.vm_top.proofs.TakenLaws.{over_none, over_more}
use Rattle.vm_top.proofs.body.read_body.Goals as goal

pub lines-init : goal.lines-init
lines-init g c =
    let left = g.S.Source.left c.args.input.now in
    record {
      passed = ([], tt, c.new-body.ensures.gathers, passes_none c.args.lines.now left);
      format = c.new-body.ensures.format;
      time = c.new-body.ensures.time;
      over = over_none c.args.lines.now left;
      knows = c.requires.knows;
      takes = takes_none c.args.lines.now left;
      counted = omega arith;
    }

pub returns-in_err-step-clause-takes : goal.returns-in_err-step-clause-takes
returns-in_err-step-clause-takes g c =
    let left = g.S.Source.left in
    takes_more c.args.lines.now c.lines.lines c.advance.new.self (left c.args.input.now)
    (left c.lines.input)
    (left c.advance.new.input) c.lines.invariant.takes c.in_err-step.ensures.takes

-- no whole line came that ends the body
pub returns-in_err-step-clause-breaks : goal.returns-in_err-step-clause-breaks
returns-in_err-step-clause-breaks g c =
    let left = g.S.Source.left in
    let so_far = c.lines.invariant.passed in
    let fault = c.in_err-step.field-0.0 in
    let cut :
    IsCutShort (Some (Import c.args.format c.args.time)) c.args.lines.now
    (left c.args.input.now) (left c.advance.new.input) = record {
      format = c.args.format;
      time = c.args.time;
      imports = refl;
      passed = so_far.0;
      within = so_far.1;
      mid = c.lines.lines;
      left_mid = left c.lines.input;
      through = so_far.3.through;
      over = c.lines.invariant.over;
      stops = c.in_err-step.ensures.stops;
    } in
    at_err (λ result.
    IfErr result
    (λ f. BreaksOff f (Some (Import c.args.format c.args.time)) c.args.lines.now
    (left c.args.input.now) (left c.advance.new.input)))
    c.from_residual.result fault c.from_residual.ensures.1
    (breaks_of fault c.args.format c.args.time c.args.lines.now (left c.args.input.now)
    (left c.advance.new.input) cut)

pub returns-then-ends_body-clause-over : goal.returns-then-ends_body-clause-over
returns-then-ends_body-clause-over g c =
    let left = g.S.Source.left in
    over_more c.args.lines.now c.lines.lines c.advance.new.self (left c.args.input.now)
    (left c.lines.input)
    (left c.advance.new.input) c.lines.invariant.over c.in_ok-step.ensures.over

pub returns-clause-over : goal.returns-clause-over
returns-clause-over g c =
    let left = g.S.Source.left in
    over_more c.args.lines.now c.lines.lines c.advance.new.self (left c.args.input.now)
    (left c.lines.input)
    (left c.advance.new.input) c.lines.invariant.over c.in_ok-step.ensures.over

pub returns-then-ends_body-clause-reads : goal.returns-then-ends_body-clause-reads
returns-then-ends_body-clause-reads g c =
    let left = g.S.Source.left in
    let has :
    HasLine c.in-Some.step c.lines.lines c.advance.new.self (left c.lines.input)
    (left c.advance.new.input) =
    subst (λ s.
    Comes s c.lines.lines c.advance.new.self (left c.lines.input) (left c.advance.new.input))
    c.in-Some.is c.in_ok-step.ensures.comes in
    let shown = subst (λ text. IsLineOf c.in-Some.step text has.line) (sym c.line.ensures) has.is in
    let so_far = c.lines.invariant.passed in
    let end = is_end has.line (sym (c.ends_body.ensures has.line shown) ∙ c.if-ends_body.true) in
    record {
      passed = so_far.0;
      within = so_far.1;
      gathers = so_far.2;
      same_format = c.lines.invariant.format;
      same_time = c.lines.invariant.time;
      passes =
          passes_more c.args.lines.now c.lines.lines c.advance.new.self (left c.args.input.now)
          (left c.lines.input)
          (left c.advance.new.input) so_far.0 (codes "." ∷ []) so_far.3
          (subst (λ line.
          Passes (line ∷ []) c.lines.lines c.advance.new.self (left c.lines.input)
          (left c.advance.new.input))
          end (passes_line c.in-Some.step c.lines.lines c.advance.new.self (left c.lines.input)
          (left c.advance.new.input) has));
    }

pub returns-then-ends_body-clause-takes : goal.returns-then-ends_body-clause-takes
returns-then-ends_body-clause-takes g c =
    let left = g.S.Source.left in
    takes_more c.args.lines.now c.lines.lines c.advance.new.self (left c.args.input.now)
    (left c.lines.input)
    (left c.advance.new.input) c.lines.invariant.takes c.in_ok-step.ensures.takes

pub returns-in_err-add-clause-takes : goal.returns-in_err-add-clause-takes
returns-in_err-add-clause-takes g c =
    let left = g.S.Source.left in
    takes_more c.args.lines.now c.lines.lines c.advance.new.self (left c.args.input.now)
    (left c.lines.input)
    (left c.advance.new.input) c.lines.invariant.takes c.in_ok-step.ensures.takes

pub returns-clause-takes : goal.returns-clause-takes
returns-clause-takes g c =
    let left = g.S.Source.left in
    takes_more c.args.lines.now c.lines.lines c.advance.new.self (left c.args.input.now)
    (left c.lines.input)
    (left c.advance.new.input) c.lines.invariant.takes c.in_ok-step.ensures.takes

pub lines-preserved : goal.lines-preserved
lines-preserved g c =
    let left = g.S.Source.left in
    let has :
    HasLine c.in-Some.step c.lines.lines c.advance.new.self (left c.lines.input)
    (left c.advance.new.input) =
    subst (λ s.
    Comes s c.lines.lines c.advance.new.self (left c.lines.input) (left c.advance.new.input))
    c.in-Some.is c.in_ok-step.ensures.comes in
    let shown = subst (λ text. IsLineOf c.in-Some.step text has.line) (sym c.line.ensures) has.is in
    let shown_again =
    subst (λ text. IsLineOf c.in-Some.step text has.line) (sym c.line-in-Some.ensures) has.is in
    let so_far = c.lines.invariant.passed in
    let adds = c.in_ok-add.ensures has.line shown_again so_far.2.few in
    record {
      passed = (
        so_far.0 ++ has.line ∷ [],
        all_more (λ line. is_body_end line ≡ false) so_far.0 has.line so_far.1
            (sym (c.ends_body.ensures has.line shown) ∙ c.if-ends_body.false),
        gathers_more c.lines.body c.add.new.self so_far.0 has.line so_far.2 adds,
        passes_more c.args.lines.now c.lines.lines c.advance.new.self (left c.args.input.now)
            (left c.lines.input)
            (left c.advance.new.input) so_far.0 (has.line ∷ []) so_far.3
            (passes_line c.in-Some.step c.lines.lines c.advance.new.self (left c.lines.input)
            (left c.advance.new.input) has),
      );
      format = adds.format ∙ c.lines.invariant.format;
      time = adds.time ∙ c.lines.invariant.time;
      over = over_more c.args.lines.now c.lines.lines c.advance.new.self (left c.args.input.now)
          (left c.lines.input)
          (left c.advance.new.input) c.lines.invariant.over c.in_ok-step.ensures.over;
      knows = c.advance.ensures.end;
      takes = takes_more c.args.lines.now c.lines.lines c.advance.new.self (left c.args.input.now)
          (left c.lines.input)
          (left c.advance.new.input) c.lines.invariant.takes c.in_ok-step.ensures.takes;
      counted = omega (arith, c.lines.invariant.counted, c.in_ok-step.ensures.counted);
    }
