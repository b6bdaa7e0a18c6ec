-- How samples are cut into blocks.
use Rattle.std.specs.Prelude.{◌≡◌, ℕ, ◌+◌, ◌^◌, ◌<◌, ◌≤◌, ◌&&◌, nat_le, nat_lt, ℤ, unsigned_abs, Bool, true, false, List, [], ◌∷◌, ◌++◌, length, take, All, ⊤}
use Rattle.std.specs.List.{list_all, AllByRecursion}
use Rattle.vm_base.specs.Sorted.{IsUp}
use Rattle.vm_base.specs.Stamped.{is_in_order}
use Rattle.vm_base.specs.declared.stamped.Stamped.{Stamped}
use Rattle.vm_block.specs.Block.{common_shift, values_of}

-- a value's mantissa has at most 18 digits at this exponent, which counts from -1000: a value is
-- counted in units of 10^-1000, so it lies below 10^18 times 10^shift of them
abbrev pub has_18_digits : ℕ → ℤ → Bool
has_18_digits shift z = nat_lt (unsigned_abs z) (10 ^ (18 + shift))

-- at the exponent of their block each mantissa has at most 18 digits
abbrev pub share_exponent : List ℤ → Bool
share_exponent values = list_all (has_18_digits (common_shift values)) values

-- one block can hold these samples
abbrev pub fit_one_block : List Stamped → Bool
fit_one_block samples = nat_le (length samples) 8192 && share_exponent (values_of samples)

-- these samples can be a block: some that fit, in order, with times in their range
pub record AreOneBlock (samples : List Stamped) : Type 0 where
  pub some : 1 ≤ length samples
  pub fit : fit_one_block samples ≡ true
  pub order : IsUp is_in_order samples
  pub times : All (λ s. s.time < 2 ^ 48) samples

-- lists one after the other
abbrev pub joined : List (List Stamped) → List Stamped
joined [] = []
joined (block ∷ more) = block ++ joined more

-- no block could take the first sample of the next one
abbrev pub AreFull : List (List Stamped) → Type 0
AreFull [] = ⊤
AreFull (block ∷ []) = ⊤
AreFull (block ∷ next ∷ more) = (fit_one_block (block ++ take 1 next) ≡ false)
    × AreFull (next ∷ more)

-- The blocks of samples: one after the other they are the samples, each has some samples and fits,
-- and each ends only where it must.
pub record IsCut (samples : List Stamped) (blocks : List (List Stamped)) : Type 0 where
  pub whole : joined blocks ≡ samples
  pub each : AllByRecursion (λ block. (1 ≤ length block) × (fit_one_block block ≡ true)) blocks
  pub full : AreFull blocks
