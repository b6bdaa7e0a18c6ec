-- What the parts of `advance` do: words of inner contracts, which the public ones don't cite.
use Rattle.std.specs.Prelude.{◌≡◌, ◌≢◌, ℕ, ◌+◌, true, false, List, [], ◌++◌, length, Option}
use Rattle.vm_outside.specs.Outside.{Gives}
use Rattle.vm_lines.specs.Lines.{without_return, is_too_long}
use Rattle.vm_lines.specs.Reading.{Reading}
use Rattle.vm_lines.specs.declared.step.Step.{Step}
use Rattle.vm_lines.specs.declared.step.Step.TheVariants.{Line, TooLong, End}

-- n bytes of a source came behind those ahead
pub record Takes (before now : Reading) (n : ℕ) (left_before left_now : Option (List ℕ)) :
    Type 0 where
  pub piece : List ℕ
  pub many : length piece ≡ n
  pub behind : now.ahead ≡ before.ahead ++ piece
  pub counted : now.taken ≡ before.taken + n
  pub gives : Gives left_before piece left_now

-- what is made of a piece between line feeds: a line, unless it is too long
abbrev pub Shows : Step → List ℕ → List ℕ → Type 0
Shows Line piece line = (line ≡ without_return piece) × (is_too_long line ≡ false)
Shows TooLong piece line = is_too_long (without_return piece) ≡ true
Shows End piece line = ⊥

-- what is made of the piece that the end of the input ends: nothing of an empty one
abbrev pub Ends : Step → List ℕ → List ℕ → Type 0
Ends Line piece line = (piece ≢ []) × Shows Line piece line
Ends TooLong piece line = (piece ≢ []) × Shows TooLong piece line
Ends End piece line = piece ≡ []
