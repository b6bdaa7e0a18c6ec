use Rattle.std.proofs.Common.{◌≡◌, ◌++◌, ◌≤◌, List}
use Rattle.std.specs.Option.{option_map}
use Rattle.vm_labels.specs.declared.row.Row.{Row}
use Rattle.vm_lines.specs.Lines.{lines}
use Rattle.vm_lines.specs.Reading.{to_go, KnowsEnd}
use Rattle.vm_machine.specs.Found.{found}
use Rattle.vm_top.specs.inner.Reading.{Takes, unread, first_place}
use Rattle.vm_top.specs.inner.Said.{rows}
use Rattle.vm_top.proofs.last.find_in.Given as goal

abbrev pub invariant-lines : goal.invariant-lines
invariant-lines g l =
    let left = g.S.Source.left in
    record {
      found : (done : List Row) × (l.found ≡ found l.question done)
          × (option_map (λ bytes. rows l.now (lines bytes)) (left l.initial.input)
          ≡ option_map (λ bytes. done ++ rows l.now (lines bytes)) (unread l.lines (left l.input)));
      knows : KnowsEnd l.lines.reading (left l.input);
      takes : Takes first_place l.lines (left l.initial.input) (left l.input);
      counted : g.S.Source.faults l.initial.input ≤ g.S.Source.faults l.input;
    }

abbrev pub decreases-lines : goal.decreases-lines
decreases-lines g l = to_go l.lines.reading
