-- Quotients of whole numbers, rounded.
use Rattle.std.specs.Prelude.{ℕ, ◌+◌, ◌*◌, ◌/◌, ◌%◌, ◌==◌, ◌&&◌, ◌||◌, nat_lt, if◌then◌else◌}

-- n divided by d, rounded to the nearest whole number, and to the even one of two that are as near
abbrev pub nearest : ℕ → ℕ → ℕ
nearest n d =
    let whole = n / d in
    let rest = n % d in
    if nat_lt (2 * rest) d || (2 * rest == d && whole % 2 == 0) then whole else whole + 1
