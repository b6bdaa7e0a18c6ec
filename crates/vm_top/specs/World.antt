-- What objects tell of the world around a call.
use Rattle.std.specs.Prelude.{ℕ, List, Option}

-- What the clock will answer, what the input has left, and what the output took, each where that is
-- told; and how many faults the input and the output counted.
pub record World : Type 0 where
  pub clock : Option (List ℕ)
  pub input : Option (List ℕ)
  pub input_faults : ℕ
  pub output : Option (List ℕ)
  pub output_faults : ℕ

-- the world of these contents and counts
abbrev pub world : Option (List ℕ) → Option (List ℕ) → ℕ → Option (List ℕ) → ℕ → World
world clock input input_faults output output_faults = record {
  clock = clock;
  input = input;
  input_faults = input_faults;
  output = output;
  output_faults = output_faults;
}
