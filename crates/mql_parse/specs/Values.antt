-- What numbers and durations say. (MetricsQL, "MetricsQL features": durations)
use Rattle.std.specs.Prelude.{◌≡◌, ℕ, min, ◌+◌, ◌-◌, ◌*◌, ◌^◌, ◌==◌, ◌&&◌, nat_lt, ℤ, pos, ◌-ℤ◌, Bool, false, List, [], ◌∷◌, Option, Some, None, Result, Ok, Err, if◌then◌else◌}
use Rattle.std.specs.Char.{is_ascii_digit}
use Rattle.vm_decimal.specs.DecText.{dec_reading}
use Rattle.vm_decimal.specs.declared.sample_text.NumFault.{NumFault}
use Rattle.mql_lex.specs.declared.span.Span.{Span}

-- the number, none in place of a fault
abbrev pub or_none : Result ℤ NumFault → Option ℤ
or_none (Ok z) = Some z
or_none (Err fault) = None

-- the number that a text says, none where it is no decimal of the store
unfoldable pub number_of : List ℕ → Option ℤ
number_of text = or_none (dec_reading text)

-- the number, 0 where there is none
abbrev pub or_zero : Option ℤ → ℤ
or_zero (Some z) = z
or_zero None = pos 0

-- the ms and the steps of a duration
pub record Length : Type 0 where
  pub ms : ℕ
  pub steps : ℕ

-- so many ms and no steps
abbrev pub some_ms : ℕ → Length
some_ms ms = record { ms = ms; steps = 0 }

-- whether a text begins with this byte
abbrev pub begins_with : ℕ → List ℕ → Bool
begins_with byte [] = false
begins_with byte (b ∷ more) = b == byte

-- one of the unit whose first letter stands before some more text. An `s` after `m` is of the unit
-- `ms`, and no digits stand before it.
abbrev pub unit_at : ℕ → List ℕ → Length
unit_at letter more =
    if letter == 109 then some_ms (if begins_with 115 more then 1 else 60000)
    else (if letter == 115 then some_ms 1000
    else (if letter == 104 then some_ms 3600000
    else (if letter == 100 then some_ms 86400000
    else (if letter == 119 then some_ms 604800000
    else (if letter == 121 then some_ms 31536000000
    else record { ms = 0; steps = 1 })))))

-- so many of a length
abbrev pub times : ℕ → Length → Length
times count l = record { ms = count * l.ms; steps = count * l.steps }

-- the sum of two lengths
abbrev pub plus : Length → Length → Length
plus l k = record { ms = l.ms + k.ms; steps = l.steps + k.steps }

-- what a text says after the digits of a number
abbrev pub length_behind : ℕ → List ℕ → Length
length_behind count [] = some_ms 0
length_behind count (b ∷ more) =
    if is_ascii_digit b then length_behind (count * 10 + (b - 48)) more
    else plus (times count (unit_at b more)) (length_behind 0 more)

-- the sum of what a duration counts
unfoldable pub length_of : List ℕ → Length
length_of text = length_behind 0 text

-- A duration has fewer than 2^48 ms and fewer than 2^48 steps.
abbrev pub is_short : Length → Bool
is_short l = nat_lt l.ms (2 ^ 48) && nat_lt l.steps (2 ^ 48)

-- a length as a span
abbrev pub ahead : Length → Span
ahead l = record { ms = pos l.ms; steps = pos l.steps }

-- a length as a span below zero
abbrev pub back : Length → Span
back l = record { ms = pos 0 -ℤ pos l.ms; steps = pos 0 -ℤ pos l.steps }

-- the same number as far as 2^48
abbrev pub AsFar : ℕ → ℕ → Type 0
AsFar n m = min n (2 ^ 48) ≡ min m (2 ^ 48)
