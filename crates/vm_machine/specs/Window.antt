-- What a query at one time sees of a series. (MetricsQL, "rollup functions"; VictoriaMetrics,
-- "instant query")
use Rattle.std.specs.Prelude.{ℕ, ◌+◌, ◌&&◌, nat_lt, nat_le, ℤ, Bool, List, Option, filter}
use Rattle.std.specs.Option.{option_map}
use Rattle.vm_base.specs.declared.stamped.Stamped.{Stamped}
use Rattle.vm_base.specs.Sorted.{last_of}

-- whether a sample lies in the window of this length that ends at `at`: at - window < time <= at
abbrev pub is_within : ℕ → ℕ → Stamped → Bool
is_within at window sample = nat_lt at (sample.time + window) && nat_le sample.time at

-- the last sample in the window
abbrev pub last_within : ℕ → ℕ → List Stamped → Option Stamped
last_within at window samples = last_of (filter (is_within at window) samples)

-- `default_rollup`: the value of the last sample in the window
abbrev pub default_rollup : ℕ → ℕ → List Stamped → Option ℤ
default_rollup at window samples =
    option_map (λ sample. sample.value) (last_within at window samples)
