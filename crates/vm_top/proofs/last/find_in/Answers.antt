use Rattle.std.proofs.Common.{◌++◌, [], Err, IsErrOf, rules, arith, refl, sym, ap, subst, ◌∙◌}
use Rattle.vm_machine.specs.Found.{found}
use Rattle.vm_machine.proofs.FoundLaws.{found_empty}
use Rattle.vm_promtext.specs.Means.{rows_of}
use Rattle.vm_top.specs.inner.Reading.{Comes, HasLine, IsLineOf, first_place, unread}
use Rattle.vm_top.specs.Rows.{or_none}
use Rattle.vm_top.specs.inner.Said.{rows, line_rows}
use Rattle.vm_top.specs.declared.fault.Fault.TheVariants.{InputTooLong}
use Rattle.vm_top.proofs.InputLaws.{takes_more, long_from}
use Rattle.vm_top.proofs.LastLaws.{all_unread, none_taken, row_step}
use Rattle.vm_top.proofs.TakenLaws.{knows_none}
use Rattle.vm_top.proofs.last.find_in.Goals as goal

pub lines-init : goal.lines-init
lines-init g c =
    let left = g.S.Source.left c.args.input.now in
    record {
      found = (
        [],
        c.new-found.ensures
            ∙ sym (found_empty c.args.question.now),
        all_unread (rows c.args.now) c.in_ok-lines.lines left c.in_ok-lines.ensures,
      );
      knows = knows_none c.in_ok-lines.lines left c.in_ok-lines.ensures;
      takes = none_taken c.in_ok-lines.lines left c.in_ok-lines.ensures;
      counted = omega arith;
    }

pub returns-in_err-step-clause-too_long : goal.returns-in_err-step-clause-too_long
returns-in_err-step-clause-too_long g c = λ is.
    let at : IsErrOf (Err c.in_err-step.field-0.0) InputTooLong = search rules in
    long_from first_place c.lines.lines (g.S.Source.left c.args.input.now)
    (g.S.Source.left c.lines.input)
    c.lines.invariant.takes refl (c.in_err-step.ensures.too_long at)

pub lines-preserved : goal.lines-preserved
lines-preserved g c =
    let left = g.S.Source.left in
    let has :
    HasLine c.in-Some.step c.lines.lines c.advance.new.self (left c.lines.input)
    (left c.advance.new.input) =
    subst (λ s.
    Comes s c.lines.lines c.advance.new.self (left c.lines.input) (left c.advance.new.input))
    c.in-Some.is c.in_ok-step.ensures.comes in
    let before = c.lines.invariant.found in
    let shown = subst (λ text. IsLineOf c.in-Some.step text has.line) (sym c.line.ensures) has.is in
    let said = c.in_ok-line.ensures has.line shown in
    record {
      found = (
        before.0 ++ line_rows c.args.now has.line,
        c.in_ok-add_line.ensures before.0 before.1
            ∙ ap (λ line. found c.args.question.now (before.0 ++ or_none (rows_of line))) said,
        row_step c.args.now before.0 (left c.args.input.now)
            (unread c.lines.lines (left c.lines.input))
            (unread c.advance.new.self (left c.advance.new.input)) has.line before.2 has.first,
      );
      knows = c.advance.ensures.end;
      takes = takes_more first_place c.lines.lines c.advance.new.self (left c.args.input.now)
          (left c.lines.input)
          (left c.advance.new.input) c.lines.invariant.takes c.in_ok-step.ensures.takes;
      counted = omega (arith, c.lines.invariant.counted, c.in_ok-step.ensures.counted);
    }
