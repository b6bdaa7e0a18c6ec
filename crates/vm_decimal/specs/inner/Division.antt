-- Quotients of sizes. Only inner contracts cite these.
use Rattle.std.specs.Prelude.{◌≡◌, ℕ, ◌+◌, ◌-◌, ◌*◌, ◌/◌, ◌%◌, ◌^◌, ◌<◌, ◌==◌, ◌&&◌, Bool, not, Some, None, if◌then◌else◌}
use Rattle.vm_decimal.specs.Parts.{whole}
use Rattle.vm_decimal.specs.declared.division.Aligned.{Aligned}
use Rattle.vm_decimal.specs.declared.parts.Scaled.{Scaled}

-- a dividend and a divisor whose last digits count the same
pub record IsAligned (dividend divisor : Scaled) (both : Aligned) : Type 0 where
  pub scaled : both.dividend ≡ dividend.size * 10 ^ (dividend.shift - divisor.shift)
  pub few : both.dividend < 10 ^ 38
  pub dividend_is : whole dividend ≡ both.dividend * 10 ^ both.shift
  pub divisor_is : (v : ℕ) → both.divisor ≡ Some v → whole divisor ≡ v * 10 ^ both.shift
  pub some : (v : ℕ) → both.divisor ≡ Some v → 0 < v
  pub far : both.divisor ≡ None → 2 * whole dividend < whole divisor

-- n / d, cut away from zero or towards it
abbrev pub cut : Bool → ℕ → ℕ → ℕ
cut away n d = if away && not (n % d == 0) then n / d + 1 else n / d
