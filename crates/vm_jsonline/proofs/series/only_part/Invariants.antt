use Rattle.std.proofs.Common.{◌≡◌, ◌++◌, drop, map}
use Rattle.std.specs.Option.{option_map}
use Rattle.vm_jsonline.specs.Reading.{parts_at}
use Rattle.vm_jsonline.proofs.KeyLaws.{list_of}
use Rattle.vm_jsonline.proofs.series.only_part.Given as goal

abbrev pub invariant-loop-part : goal.invariant-loop-part
invariant-loop-part l =
    parts_at l.name (map (λ p. record { key = p.key.now; value = p.value.now }) l.parts)
    ≡ list_of (option_map (λ v. v.now) l.found)
    ++ parts_at l.name
    (drop l.part-index (map (λ p. record { key = p.key.now; value = p.value.now }) l.parts))
