use Rattle.std.proofs.Common.{◌≡◌, ◌≤◌, map, take}
use Rattle.std.specs.List.{All, flat_map}
use Rattle.vm_match.specs.Built.{patterns_in}
use Rattle.vm_match.specs.Tests.{asked, kept}
use Rattle.vm_match.proofs.build.tests_of_lists.Given as goal

abbrev pub invariant-loop-filters : goal.invariant-loop-filters
invariant-loop-filters g l =
    (map (λ list. map (kept g.P.Built.Pattern.text) list.items) l.tests
    ≡ map (map asked) (take l.filters-index l.lists))
    × All g.P.Patterns.IsPattern (flat_map patterns_in (take l.filters-index l.lists))
    × (g.P.Patterns.refusals l.fn.patterns ≤ g.P.Patterns.refusals l.patterns)
