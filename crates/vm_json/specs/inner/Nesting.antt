-- How the open brackets are kept: one bit each. Only inner contracts cite it.
use Rattle.std.specs.Prelude.{ℕ, zero, suc, ◌/◌, ◌%◌, ◌^◌, ◌<◌, ◌≤◌, ◌==◌, List, [], ◌∷◌, Option, Some, None, if◌then◌else◌}
use Rattle.vm_json.specs.declared.nesting.Bracket.{Bracket}
use Rattle.vm_json.specs.declared.nesting.Bracket.TheVariants.{Square, Curly}

-- the bracket that a bit stands for
abbrev pub bracket_of : ℕ → Bracket
bracket_of bit = if bit == 0 then Square else Curly

-- the brackets of so many bits, the innermost first
abbrev pub brackets : ℕ → ℕ → List Bracket
brackets zero bits = []
brackets (suc count) bits = bracket_of (bits % 2) ∷ brackets count (bits / 2)

-- at most 100 brackets, and no bit that is set above theirs
pub record IsNesting (count bits : ℕ) : Type 0 where
  pub few : count ≤ 100
  pub fits : bits < 2 ^ count

-- the innermost bracket, where one is open
abbrev pub innermost : List Bracket → Option Bracket
innermost [] = None
innermost (bracket ∷ inside) = Some bracket
