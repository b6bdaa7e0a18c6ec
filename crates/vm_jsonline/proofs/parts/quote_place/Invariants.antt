use Rattle.std.proofs.Common.{◌≡◌, ◌+◌, false, drop}
use Rattle.std.specs.Option.{option_map}
use Rattle.vm_jsonline.specs.Parts.{quote_place}
use Rattle.vm_jsonline.proofs.parts.quote_place.Given as goal

abbrev pub invariant-loop-at : goal.invariant-loop-at
invariant-loop-at l =
    quote_place false l.text ≡ option_map (λ k. l.at + k) (quote_place l.escaped (drop l.at l.text))
