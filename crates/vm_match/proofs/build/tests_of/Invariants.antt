use Rattle.std.proofs.Common.{◌≡◌, ◌≤◌, map, take}
use Rattle.std.specs.List.{All}
use Rattle.vm_match.specs.Built.{patterns_in}
use Rattle.vm_match.specs.Tests.{asked, kept}
use Rattle.vm_match.proofs.build.tests_of.Given as goal

abbrev pub invariant-loop-filter : goal.invariant-loop-filter
invariant-loop-filter g l =
    (map (kept g.P.Built.Pattern.text) l.tests ≡ map asked (take l.filter-index l.filters))
    × All g.P.Patterns.IsPattern (patterns_in (take l.filter-index l.filters))
    × (g.P.Patterns.refusals l.fn.patterns ≤ g.P.Patterns.refusals l.patterns)
