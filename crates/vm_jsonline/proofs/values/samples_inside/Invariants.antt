use Rattle.std.proofs.Common.{◌≡◌, ◌-◌, length}
use Rattle.vm_jsonline.specs.Parts.{items}
use Rattle.vm_jsonline.specs.Reading.{sample_at, all_items}
use Rattle.vm_jsonline.specs.Series.{all_of}
use Rattle.vm_jsonline.proofs.Loops.{onto}
use Rattle.vm_jsonline.proofs.values.samples_inside.Given as goal

abbrev pub invariant-loop-item : goal.invariant-loop-item
invariant-loop-item l =
    all_of sample_at (all_items l.text)
    ≡ onto sample_at l.samples (items (length l.text - l._item) l.rest)
