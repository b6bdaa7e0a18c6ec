-- The text of milliseconds is a count of some unit, for those who read it back.
use Rattle.std.specs.Prelude.{◌≡◌, ℕ, ◌*◌, ◌/◌, ◌%◌, Bool, true, false, List, codes, if◌then◌else◌}
use Rattle.std.proofs.Common.{refl, arith}
use Rattle.std.proofs.lemmas.Bool.{eqb-true}
use Rattle.mql_expr.specs.Spans.{unit_ms, unit_text, is_whole, greatest_unit, count_text, ms_text}
use Rattle.mql_expr.specs.declared.span_text.Unit.{Unit as UnitOf}
use Rattle.mql_expr.specs.declared.span_text.Unit.TheVariants.{Day, Hour, Minute, Second, Millisecond}

-- a unit and its milliseconds
pub data IsUnit : List ℕ → ℕ → Type 0 where
  days : IsUnit (codes "d") 86400000
  hours : IsUnit (codes "h") 3600000
  minutes : IsUnit (codes "m") 60000
  seconds : IsUnit (codes "s") 1000
  milliseconds : IsUnit (codes "ms") 1

pub record Counted (ms : ℕ) : Type 0 where
  pub count : ℕ
  pub unit : List ℕ
  pub size : ℕ
  pub is : IsUnit unit size
  pub text : ms_text ms ≡ count_text count unit
  pub whole : count * size ≡ ms

unit_is : (unit : UnitOf) → IsUnit (unit_text unit) (unit_ms unit)
unit_is Day = days
unit_is Hour = hours
unit_is Minute = minutes
unit_is Second = seconds
unit_is Millisecond = milliseconds

whole_of : (ms : ℕ) (unit : UnitOf) → is_whole ms unit ≡ true → ms % unit_ms unit ≡ 0
whole_of ms unit is = eqb-true (ms % unit_ms unit) 0 is

abbrev chosen : (d h m s : Bool) → UnitOf
chosen d h m s = if d then Day else if h then Hour else if m then Minute else if s then Second
    else Millisecond

parted_whole : (ms : ℕ) → (ms / unit_ms (greatest_unit ms)) * unit_ms (greatest_unit ms) ≡ ms
parted_whole ms =
    go (is_whole ms Day) (is_whole ms Hour) (is_whole ms Minute) (is_whole ms Second) refl refl refl
    refl
  where
    go : (d h m s : Bool) → is_whole ms Day ≡ d → is_whole ms Hour ≡ h → is_whole ms Minute ≡ m
        → is_whole ms Second ≡ s
        → (ms / unit_ms (chosen d h m s)) * unit_ms (chosen d h m s) ≡ ms
    go true h m s p q r t = let z : ms % 86400000 ≡ 0 = whole_of ms Day p in omega arith
    go false true m s p q r t = let z : ms % 3600000 ≡ 0 = whole_of ms Hour q in omega arith
    go false false true s p q r t = let z : ms % 60000 ≡ 0 = whole_of ms Minute r in omega arith
    go false false false true p q r t = let z : ms % 1000 ≡ 0 = whole_of ms Second t in omega arith
    go false false false false p q r t = omega arith

pub ms_counted : (ms : ℕ) → Counted ms
ms_counted ms = record {
  count = ms / unit_ms (greatest_unit ms);
  unit = unit_text (greatest_unit ms);
  size = unit_ms (greatest_unit ms);
  is = unit_is (greatest_unit ms);
  text = refl;
  whole = parted_whole ms;
}
