use Rattle.std.proofs.Common.{◌≡◌, ◌-◌, ◌++◌, length, map}
use Rattle.vm_jsonline.specs.Parts.{members}
use Rattle.vm_jsonline.specs.Reading.{all_members}
use Rattle.vm_jsonline.proofs.series.parts_inside.Given as goal

abbrev pub invariant-loop-member : goal.invariant-loop-member
invariant-loop-member l =
    all_members l.text ≡ map (λ p. record { key = p.key.now; value = p.value.now }) l.parts.items
    ++ members (length l.text - l._member) l.rest
