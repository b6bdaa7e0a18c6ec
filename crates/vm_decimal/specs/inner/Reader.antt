-- How the reader stands for the machine's state. Only inner contracts cite it.
use Rattle.std.specs.Prelude.{◌≡◌, ℕ, ◌<◌, ◌≤◌, ◌^◌, List, Option, Some, None, Bool, true, false}
use Rattle.vm_base.specs.Run.{run}
use Rattle.vm_decimal.specs.inner.Leading.{Leads}
use Rattle.vm_decimal.specs.NumberMachine.{State, may_end, step, start}
use Rattle.vm_decimal.specs.declared.number_machine.Symbol.{Symbol}
use Rattle.vm_decimal.specs.declared.number_machine.Symbol.TheVariants.{Digit}
use Rattle.vm_decimal.specs.declared.reader.Reader.{Reader}

-- a count that is exact below 10^30
pub record IsCapped (counted n : ℕ) : Type 0 where
  pub exact : counted < 10 ^ 30 → counted ≡ n
  pub far : 10 ^ 30 ≤ counted → 10 ^ 30 ≤ n
  pub few : counted < 10 ^ 32

-- the reader stands for this state
pub record Stands (reader : Reader) (s : State) : Type 0 where
  pub phase : reader.phase ≡ s.phase
  pub negative : reader.negative ≡ s.negative
  pub digits : Leads reader.digits s.digits
  pub places : reader.places ≡ s.places
  pub down : reader.down ≡ s.down
  pub power : IsCapped reader.power s.power

-- after n bytes no count is above n
pub record Counts (reader : Reader) (n : ℕ) : Type 0 where
  pub places : reader.places ≤ n
  pub dropped : reader.digits.dropped ≤ n

-- a digit is below 10
abbrev pub IsSmall : Symbol → Type 0
IsSmall (Digit d) = d < 10
IsSmall _ = Unit {0}

-- both go on, or neither
abbrev pub Steps : Bool → Option State → Reader → Type 0
Steps true next after = (t : State) × (next ≡ Some t) × Stands after t
Steps false next after = next ≡ None

-- the machine comes to a state that the reader stands for
pub record Comes (text : List ℕ) (reader : Reader) : Type 0 where
  pub state : State
  pub there : run step start text ≡ Some state
  pub stands : Stands reader state

-- and a number may end there
pub record Reached (text : List ℕ) (reader : Reader) : Type 0 where
  pub comes : Comes text reader
  pub done : may_end reader.phase ≡ true
