-- What the exact digits say of a number. Only inner contracts cite it.
use Rattle.std.specs.Prelude.{◌≡◌, ℕ, ◌*◌, ◌%◌, ◌^◌, ◌<◌, ◌≤◌, true, false, List, Option, Some, None}
use Rattle.vm_base.specs.Run.{run}
use Rattle.vm_decimal.specs.NumberMachine.{State, step, start}
use Rattle.vm_decimal.specs.declared.exact.Exact.{Exact}
use Rattle.vm_decimal.specs.declared.number_machine.Phase.{Phase}

-- it has more than 38 digits up to the last that isn't 0
pub record IsWide (n : ℕ) : Type 0 where
  pub bare : ℕ
  pub noughts : ℕ
  pub whole : n ≡ bare * 10 ^ noughts
  pub last : bare % 10 ≡ 0 → ⊥
  pub many : 10 ^ 38 ≤ bare

-- the digits without zeros at the end and how many these are, none where they are too many
abbrev pub IsCounted : Option (ℕ × ℕ) → ℕ → Type 0
IsCounted (Some counted) n = n ≡ counted.0 * 10 ^ counted.1
IsCounted None n = IsWide n

-- the digits are those of n, or say that it has too many
pub record IsExact (digits : Exact) (n : ℕ) : Type 0 where
  pub whole : digits.wide ≡ false → n ≡ digits.size * 10 ^ digits.noughts
  pub few : digits.size < 10 ^ 38
  pub full : 0 < digits.noughts → 10 ^ 37 ≤ digits.size
  pub beyond : digits.wide ≡ true → IsWide n

-- the machine comes to a state with this phase and these digits
pub record Gathers (text : List ℕ) (phase : Phase) (digits : Exact) : Type 0 where
  pub state : State
  pub there : run step start text ≡ Some state
  pub phase_is : phase ≡ state.phase
  pub digits_are : IsExact digits state.digits
