use Rattle.std.proofs.Common.{◌≡◌, ◌-◌, length}
use Rattle.vm_jsonline.specs.Parts.{items}
use Rattle.vm_jsonline.specs.Reading.{time_at, all_items}
use Rattle.vm_jsonline.specs.Series.{all_of}
use Rattle.vm_jsonline.proofs.Loops.{onto}
use Rattle.vm_jsonline.proofs.values.times_inside.Given as goal

abbrev pub invariant-loop-item : goal.invariant-loop-item
invariant-loop-item l =
    all_of time_at (all_items l.text)
    ≡ onto time_at l.times (items (length l.text - l._item) l.rest)
