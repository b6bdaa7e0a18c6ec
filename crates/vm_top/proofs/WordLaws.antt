-- Words of a command line.
use Rattle.std.proofs.Common.{◌≡◌, ℕ, ◌≤◌, List, [], ◌∷◌, ◌++◌, length, None, arith, refl, length-append}
use Rattle.vm_top.specs.Words.{last_of}

three_or_more : (words : List (List ℕ)) → 3 ≤ length words → None ≡ last_of words
three_or_more [] h = absurd (omega arith)
three_or_more (a ∷ []) h = absurd (omega arith)
three_or_more (a ∷ b ∷ []) h = absurd (omega arith)
three_or_more (a ∷ b ∷ c ∷ more) h = refl

pub last_of-long : (before after : List (List ℕ)) → 3 ≤ length before
    → None ≡ last_of (before ++ after)
last_of-long before after h =
    three_or_more (before ++ after) (omega (arith, length-append before after))
