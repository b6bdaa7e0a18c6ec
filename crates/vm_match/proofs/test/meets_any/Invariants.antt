use Rattle.std.proofs.Common.{◌≡◌, map, take, false}
use Rattle.std.specs.List.{list_all, list_any}
use Rattle.vm_labels.specs.Selected.{meets}
use Rattle.vm_match.specs.Tests.{asked, kept}
use Rattle.vm_match.proofs.test.meets_any.Given as goal

abbrev pub invariant-loop-at : goal.invariant-loop-at
invariant-loop-at g l =
    (map (λ list. map (kept g.M.Pattern.text) list.items) l.tests ≡ map (map asked) l.lists)
    × (list_any (λ filters. list_all (λ f. meets g.M.Pattern.matches f l.labels) filters)
    (take l.at l.lists)
    ≡ false)
