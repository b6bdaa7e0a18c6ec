-- The numbers of the replay script.
use Rattle.std.specs.Prelude.{ℕ, ◌&&◌, ◌^◌, nat_le, nat_lt, List, length, Option, Some, None, if◌then◌else◌}
use Rattle.std.specs.List.{list_all}
use Rattle.std.specs.Option.{option_and_then}
use Rattle.std.specs.Char.{is_ascii_digit}
use Rattle.std.specs.Str.Parse.{digits_value}

-- the number that 1 to 20 decimal digits write, where it is below 2^64
abbrev pub number_of : List ℕ → Option ℕ
number_of digits =
    if nat_le 1 (length digits) && nat_le (length digits) 20 && list_all is_ascii_digit digits
    && nat_lt (digits_value 10 digits) (2 ^ 64)
    then Some (digits_value 10 digits) else None

-- such a number, where it is not above a bound
abbrev pub number_up_to : ℕ → List ℕ → Option ℕ
number_up_to most digits =
    option_and_then (λ n. if nat_le n most then Some n else None) (number_of digits)
