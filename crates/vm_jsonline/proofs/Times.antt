-- Times that digits write.
use Rattle.std.proofs.Common.{◌≡◌, ℕ, ◌+◌, ◌*◌, ◌^◌, ◌≤◌, List, [], ◌∷◌, Option, Some, None, arith}
use Rattle.std.specs.Prelude.{nat_lt, if◌then◌else◌}
use Rattle.std.specs.Char.{digit_value}
use Rattle.std.specs.Str.Parse.{digits_value_after}
use Rattle.vm_jsonline.specs.Series.{small_time}

-- the time that digits write which follow those of a number
abbrev pub time_after : ℕ → List ℕ → Option ℕ
time_after read digits = small_time (digits_value_after 10 read digits)

grows : (read : ℕ) (digits : List ℕ) → read ≤ digits_value_after 10 read digits
grows read [] = omega arith
grows read (digit ∷ more) = omega (arith, grows (read * 10 + digit_value digit) more)

large : (n : ℕ) → 2 ^ 48 ≤ n → (if nat_lt n (2 ^ 48) then Some n else None) ≡ None
large n h = grind arith

pub time_after-large : (read : ℕ) (digits : List ℕ) → 2 ^ 48 ≤ read → time_after read digits ≡ None
time_after-large read digits h =
    large (digits_value_after 10 read digits) (omega (arith, grows read digits))
