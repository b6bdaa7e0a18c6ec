use Rattle.std.proofs.Common.{◌≡◌, ◌-◌, length}
use Rattle.vm_jsonline.specs.Parts.{members}
use Rattle.vm_jsonline.specs.Reading.{pair_at, all_members}
use Rattle.vm_jsonline.specs.Series.{all_of}
use Rattle.vm_jsonline.proofs.Loops.{onto}
use Rattle.vm_jsonline.proofs.values.pairs_inside.Given as goal

abbrev pub invariant-loop-member : goal.invariant-loop-member
invariant-loop-member l =
    all_of pair_at (all_members l.text)
    ≡ onto pair_at l.pairs (members (length l.text - l._member) l.rest)
