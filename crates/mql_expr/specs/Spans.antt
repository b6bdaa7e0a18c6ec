-- How a span of time is written.
use Rattle.std.specs.Prelude.{ℕ, ◌/◌, ◌%◌, ◌==◌, ◌&&◌, ◌||◌, Bool, pos, int_lt, unsigned_abs, List, [], ◌++◌, codes, if◌then◌else◌}
use Rattle.std.specs.Fmt.{decimal}
use Rattle.mql_lex.specs.declared.span.Span.{Span}
use Rattle.mql_expr.specs.declared.span_text.Unit.{Unit as UnitOf}
use Rattle.mql_expr.specs.declared.span_text.Unit.TheVariants.{Day, Hour, Minute, Second, Millisecond}

-- how many milliseconds a unit has
abbrev pub unit_ms : UnitOf → ℕ
unit_ms Day = 86400000
unit_ms Hour = 3600000
unit_ms Minute = 60000
unit_ms Second = 1000
unit_ms Millisecond = 1

-- how a unit is written
abbrev pub unit_text : UnitOf → List ℕ
unit_text Day = codes "d"
unit_text Hour = codes "h"
unit_text Minute = codes "m"
unit_text Second = codes "s"
unit_text Millisecond = codes "ms"

-- whether so many milliseconds are whole units
abbrev pub is_whole : ℕ → UnitOf → Bool
is_whole ms unit = ms % unit_ms unit == 0

-- the greatest unit of which they are whole ones
abbrev pub greatest_unit : ℕ → UnitOf
greatest_unit ms =
    if is_whole ms Day then Day else if is_whole ms Hour then Hour
    else if is_whole ms Minute then Minute else if is_whole ms Second then Second else Millisecond

-- so many units, left out where there are none
abbrev pub count_text : ℕ → List ℕ → List ℕ
count_text count unit = if count == 0 then [] else decimal count ++ unit

-- so many milliseconds in that unit
abbrev pub ms_text : ℕ → List ℕ
ms_text ms = count_text (ms / unit_ms (greatest_unit ms)) (unit_text (greatest_unit ms))

-- milliseconds and steps without their signs
abbrev pub size_text : (ms steps : ℕ) → List ℕ
size_text ms steps =
    if ms == 0 && steps == 0 then codes "0s" else ms_text ms ++ count_text steps (codes "i")

-- whether a span is below zero
abbrev pub is_negative : Span → Bool
is_negative span = int_lt span.ms (pos 0) || int_lt span.steps (pos 0)

-- a span without its sign
abbrev pub span_text : Span → List ℕ
span_text span = size_text (unsigned_abs span.ms) (unsigned_abs span.steps)
