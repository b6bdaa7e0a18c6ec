use Rattle.std.proofs.Common.{◌≡◌, ◌+◌, ◌-◌, false, length, drop}
use Rattle.std.specs.Option.{option_map}
use Rattle.vm_promtext.specs.Reading.{quote_place}
use Rattle.vm_promtext.proofs.quoted.quote_place.Given as goal

abbrev pub invariant-escapes : goal.invariant-escapes
invariant-escapes l =
    quote_place false l.text
    ≡ option_map (λ at. l.from + at) (quote_place false (drop l.from l.text))

abbrev pub decreases-escapes : goal.decreases-escapes
decreases-escapes l = length l.text - l.from
