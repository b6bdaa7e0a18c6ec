-- Digits one by one: words of the reader's inner contracts, which no public contract cites.
use Rattle.std.specs.Prelude.{ℕ, ◌+◌, ◌-◌, ◌*◌, ◌^◌, ◌&&◌, nat_lt, Option, Some, None, if◌then◌else◌}
use Rattle.std.specs.Char.{is_ascii_digit}

-- a number with one more digit after it, where it is below 2^64
abbrev pub with_digit : ℕ → ℕ → Option ℕ
with_digit number digit =
    if is_ascii_digit digit && nat_lt (number * 10 + (digit - 48)) (2 ^ 64)
    then Some (number * 10 + (digit - 48)) else None
