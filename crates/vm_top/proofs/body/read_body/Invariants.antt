use Rattle.std.proofs.Common.{◌≡◌, ◌≤◌, ℕ, List}
use Rattle.vm_lines.specs.Reading.{to_go, KnowsEnd}
use Rattle.vm_top.specs.inner.Playing.{Gathers, Passes}
use Rattle.vm_top.specs.inner.Reading.{Takes, GoesOver}
use Rattle.vm_top.specs.Script.{AreWithin}
use Rattle.vm_top.proofs.body.read_body.Given as goal

abbrev pub invariant-lines : goal.invariant-lines
invariant-lines g l =
    let left = g.S.Source.left in
    record {
      passed : (passed : List (List ℕ)) × AreWithin passed × Gathers l.body passed
          × Passes passed l.initial.lines l.lines (left l.initial.input) (left l.input);
      format : l.body.format ≡ l.fn.format;
      time : l.body.time ≡ l.fn.time;
      over : GoesOver l.initial.lines l.lines (left l.initial.input) (left l.input);
      knows : KnowsEnd l.lines.reading (left l.input);
      takes : Takes l.initial.lines l.lines (left l.initial.input) (left l.input);
      counted : g.S.Source.faults l.initial.input ≤ g.S.Source.faults l.input;
    }

abbrev pub decreases-lines : goal.decreases-lines
decreases-lines g l = to_go l.lines.reading
