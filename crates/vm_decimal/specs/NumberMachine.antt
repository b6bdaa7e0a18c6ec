-- A machine that reads numbers, one byte at a time. What it reads is what `specs/Spelled.antt`
-- says: that is proved.
use Rattle.std.specs.Prelude.{ℕ, suc, ◌+◌, ◌-◌, ◌*◌, ◌==◌, ◌||◌, pos, ◌-ℤ◌, Bool, true, false, Option, Some, None, if◌then◌else◌}
use Rattle.std.specs.Char.{is_ascii_digit}
use Rattle.std.specs.Option.{option_map}
use Rattle.vm_base.specs.Number.{signed}
use Rattle.vm_decimal.specs.Spelled.{Spelled}
use Rattle.vm_decimal.specs.declared.number_machine.Phase.{Phase}
use Rattle.vm_decimal.specs.declared.number_machine.Phase.TheVariants.{Start, Signed, Whole, Bare, Fraction, Marked, MarkSigned, Power}
use Rattle.vm_decimal.specs.declared.number_machine.Symbol.{Symbol}
use Rattle.vm_decimal.specs.declared.number_machine.Symbol.TheVariants.{Digit, Sign, Point, Mark, Other}

-- what a byte is to a number
abbrev pub symbol_of : ℕ → Symbol
symbol_of b =
    if is_ascii_digit b then Digit (b - 48)
    else (if b == 43 then Sign false else (if b == 45 then Sign true
    else (if b == 46 then Point else (if b == 101 || b == 69 then Mark else Other))))

-- the phase after a symbol
abbrev pub next : Phase → Symbol → Option Phase
next Start (Sign minus) = Some Signed
next Start (Digit d) = Some Whole
next Start Point = Some Bare
next Signed (Digit d) = Some Whole
next Signed Point = Some Bare
next Whole (Digit d) = Some Whole
next Whole Point = Some Fraction
next Whole Mark = Some Marked
next Bare (Digit d) = Some Fraction
next Fraction (Digit d) = Some Fraction
next Fraction Mark = Some Marked
next Marked (Sign minus) = Some MarkSigned
next Marked (Digit d) = Some Power
next MarkSigned (Digit d) = Some Power
next Power (Digit d) = Some Power
next _ _ = None

-- whether a number may end in this phase
abbrev pub may_end : Phase → Bool
may_end Whole = true
may_end Fraction = true
may_end Power = true
may_end _ = false

-- what was read so far
pub record State : Type 0 where
  pub phase : Phase
  pub negative : Bool
  -- the digits without the point, and how many stand after it
  pub digits : ℕ
  pub places : ℕ
  -- the exponent, and whether it is below zero
  pub down : Bool
  pub power : ℕ

-- what was read with one symbol more, which leads to this phase
abbrev pub taken : State → Phase → Symbol → State
taken s Whole (Digit d) = record s { phase = Whole; digits = s.digits * 10 + d }
taken s Fraction (Digit d) =
    record s { phase = Fraction; digits = s.digits * 10 + d; places = suc s.places }
taken s Power (Digit d) = record s { phase = Power; power = s.power * 10 + d }
taken s Signed (Sign minus) = record s { phase = Signed; negative = minus }
taken s MarkSigned (Sign minus) = record s { phase = MarkSigned; down = minus }
taken s phase symbol = record s { phase = phase }

-- the state after one byte more, none where no number goes on with it
abbrev pub step : State → ℕ → Option State
step s b = option_map (λ phase. taken s phase (symbol_of b)) (next s.phase (symbol_of b))

-- the number that was read
abbrev pub spelled : State → Spelled
spelled s = record {
  negative = s.negative;
  digits = s.digits;
  exponent = signed s.down s.power -ℤ pos s.places;
}

-- the same, where one may end here
abbrev pub final : State → Option Spelled
final s = if may_end s.phase then Some (spelled s) else None

-- the state before the first byte
abbrev pub start : State
start = record { phase = Start; negative = false; digits = 0; places = 0; down = false; power = 0 }
