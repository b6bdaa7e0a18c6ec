use Rattle.std.proofs.Common.{◌≡◌, map, take, true}
use Rattle.std.specs.List.{list_all}
use Rattle.vm_labels.specs.Selected.{meets}
use Rattle.vm_match.specs.Tests.{asked, kept}
use Rattle.vm_match.proofs.test.meets_all.Given as goal

abbrev pub invariant-loop-at : goal.invariant-loop-at
invariant-loop-at g l =
    (map (kept g.M.Pattern.text) l.tests ≡ map asked l.filters)
    × (list_all (λ f. meets g.M.Pattern.matches f l.labels) (take l.at l.filters) ≡ true)
