-- What a test that was built for a filter keeps of it: the operator, and the text of its pattern if
-- it has one.
use Rattle.std.specs.Prelude.{ℕ, List, [], ◌∷◌}
use Rattle.vm_labels.specs.declared.selector.Filter.{Filter}
use Rattle.vm_labels.specs.declared.selector.FilterOp.{FilterOp}
use Rattle.vm_labels.specs.declared.selector.FilterOp.TheVariants.{Equal, Differs, Matches, MatchesNot}
use Rattle.vm_match.specs.Built.{pattern_in}
use Rattle.vm_match.specs.declared.test.Test.{Test}
use Rattle.vm_match.specs.declared.test.Test.TheVariants as test

-- of a filter
abbrev pub asked : Filter → FilterOp × List (List ℕ)
asked f = (f.op, pattern_in f.op f.value)

-- of a test, where `text` is the text of a pattern
abbrev pub kept : {M : Type 0} → (M → List ℕ) → Test M → FilterOp × List (List ℕ)
kept text test.Equal = (Equal, [])
kept text test.Differs = (Differs, [])
kept text (test.Matches pattern) = (Matches, text pattern ∷ [])
kept text (test.MatchesNot pattern) = (MatchesNot, text pattern ∷ [])
