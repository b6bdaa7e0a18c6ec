-- What comes of the expression that stands at the end of a text.
use Rattle.std.specs.Prelude.{◌≡◌, ◌==◌, true, false, List, [], ◌∷◌, length, Option, Some, None}
use Rattle.std.proofs.Common.{ap, ◌∙◌, arith}
use Rattle.std.proofs.lemmas.Bool.Decides.{nat_tests}
use Rattle.mql_expr.specs.Tree.{Tree}
use Rattle.mql_parse.specs.Machine.{Frame, reduce, end, end_with}
use Rattle.mql_parse.specs.inner.Views.{the_frames}
use Rattle.mql_parse.specs.declared.state.Open.{Open}

not_empty : (x : Open) (xs : List Open) → (length (x ∷ xs) == 0) ≡ false
not_empty x xs = grind (arith, nat_tests)

pub end_there : (fs : List Frame) (opens : List Open) (o : Option Tree) (t u : Tree) → o ≡ Some t
    → reduce 0 fs t ≡ record { frames = the_frames opens; tree = u } → (length opens == 0) ≡ true
    → end_with fs o ≡ Some u
end_there fs [] o t u stands reduced empty = ap (end_with fs) stands ∙ ap end reduced
end_there fs (x ∷ xs) o t u stands reduced empty = absurd (cc (not_empty x xs, empty))

pub none_there : (fs : List Frame) (opens : List Open) (o : Option Tree) (t u : Tree) → o ≡ Some t
    → reduce 0 fs t ≡ record { frames = the_frames opens; tree = u } → (length opens == 0) ≡ false
    → end_with fs o ≡ None
none_there fs [] o t u stands reduced some = absurd (cc some)
none_there fs (x ∷ xs) o t u stands reduced some = ap (end_with fs) stands ∙ ap end reduced
