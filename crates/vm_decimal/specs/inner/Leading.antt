-- What the kept digits say of a number. Only inner contracts cite it.
use Rattle.std.specs.Prelude.{◌≡◌, ℕ, ◌+◌, ◌*◌, ◌/◌, ◌%◌, ◌^◌, ◌<◌, ◌≤◌, ◌==◌, ◌&&◌, ◌||◌, nat_lt, Bool, true, false, if◌then◌else◌}
use Rattle.vm_base.specs.Rounding.{nearest}
use Rattle.vm_decimal.specs.Rounded.{surplus}
use Rattle.vm_decimal.specs.declared.leading.Leading.{Leading}

-- the number is the kept digits with the dropped ones after them
pub record Leads (digits : Leading) (n : ℕ) : Type 0 where
  pub tail : ℕ
  pub whole : n ≡ digits.kept * 10 ^ digits.dropped + tail
  pub less : tail < 10 ^ digits.dropped
  pub some : digits.sticky ≡ true → 0 < tail
  pub none : digits.sticky ≡ false → tail ≡ 0
  pub few : digits.kept < 10 ^ 19
  pub many : 0 < digits.dropped → 10 ^ 18 ≤ digits.kept

-- n rounded to its first 18 digits, and how many stood after them
pub record IsRounding (n size more : ℕ) : Type 0 where
  pub more_is : more ≡ surplus n
  pub size_is : size ≡ nearest n (10 ^ more)

-- a tenth, rounded half to even, of a number or of a bit more
abbrev pub tenth_of : ℕ → Bool → ℕ
tenth_of kept sticky =
    if nat_lt 5 (kept % 10) || (kept % 10 == 5 && (sticky || kept / 10 % 2 == 1)) then kept / 10 + 1
    else kept / 10
