-- A block: which bytes are the block of which samples, and where others break.
use Rattle.std.specs.Prelude.{◌≡◌, ℕ, ◌+◌, ◌-◌, ◌^◌, ◌&&◌, ℤ, pos, ◌+ℤ◌, ◌-ℤ◌, ◌*ℤ◌, min, int_le, int_lt, unsigned_abs, Bool, true, false, List, [], ◌∷◌, length, map, take, drop, slice_get, Option, Some, None, Result, Ok, Err, if◌then◌else◌, ⊤}
use Rattle.std.specs.List.{list_all}
use Rattle.std.specs.Option.{unwrap_or}
use Rattle.std.specs.Ordering.{int_eq}
use Rattle.vm_base.specs.Number.{form_of}
use Rattle.vm_base.specs.Sample.{is_sample}
use Rattle.vm_base.specs.Sorted.{IsUp}
use Rattle.vm_base.specs.Stamped.{is_in_order}
use Rattle.vm_base.specs.declared.stamped.Stamped.{Stamped}
use Rattle.vm_codec.specs.Coding.{IsColumn, IsBroken}
use Rattle.vm_block.specs.Header.{IsHeader}
use Rattle.vm_block.specs.declared.header.BlockHeader.{BlockHeader}
use Rattle.vm_block.specs.declared.fault.BlockFault.{BlockFault}
use Rattle.vm_block.specs.declared.fault.BlockFault.TheVariants.{Broken, Memory}

-- ---- samples

-- the times of samples
abbrev pub times_of : List Stamped → List ℤ
times_of samples = map (λ s. pos s.time) samples

-- the values of samples
abbrev pub values_of : List Stamped → List ℤ
values_of samples = map (λ s. s.value) samples

-- no time is below the one before it, nor the first one below this one, and all are below 2^48
abbrev pub rise_from : ℤ → List ℤ → Bool
rise_from last [] = true
rise_from last (time ∷ more) = int_le last time && int_lt time (pos (2 ^ 48)) && rise_from time more

-- ---- exponents

-- m * 10^e, counted in units of 10^-1000
abbrev pub scaled_by : ℤ → ℤ → ℤ
scaled_by e m = m *ℤ pos (10 ^ unsigned_abs (e +ℤ pos 1000))

-- the exponent of a value in normal form, counted from -1000, none where the value is zero
abbrev pub own_shift : ℤ → Option ℕ
own_shift z = if int_eq z (pos 0) then None else Some (form_of z).shift

-- the lesser one of two numbers that may be missing
abbrev pub lesser : Option ℕ → Option ℕ → Option ℕ
lesser None other = other
lesser (Some n) None = Some n
lesser (Some n) (Some other) = Some (min n other)

-- the least of these exponents, none where all values are zero
abbrev pub least_shift : List ℤ → Option ℕ
least_shift [] = None
least_shift (z ∷ more) = lesser (own_shift z) (least_shift more)

-- The exponent of a block of values, which loses no digit: the least one of those that aren't zero,
-- and 0 where all are.
abbrev pub common_shift : List ℤ → ℕ
common_shift values = unwrap_or (least_shift values) 1000

-- the same as an exponent of ten: a shift of 1000 is the exponent 0
abbrev pub common_exponent : List ℤ → ℤ
common_exponent values = pos (common_shift values) -ℤ pos 1000

-- all are samples, and this is the exponent of their block
abbrev pub are_values : ℤ → List ℤ → Bool
are_values e values = list_all is_sample values && int_eq (common_exponent values) e

-- ---- blocks

-- the first part of a body is the column of these times, and the rest that of these mantissas
abbrev pub SaysTimes : BlockHeader → List ℕ → List ℤ → Type 0
SaysTimes h body times = IsColumn h.times (pos h.first_time) h.count (take h.times_len body) times

abbrev pub SaysMantissas : BlockHeader → List ℕ → List ℤ → Type 0
SaysMantissas h body mantissas =
    IsColumn h.values h.first_m h.count (drop h.times_len body) mantissas

-- these times end with the header's last time
abbrev pub EndsAtLast : BlockHeader → List ℤ → Type 0
EndsAtLast h times = slice_get times (h.count - 1) ≡ Some (pos h.last_time)

-- The grammar: a header and a body are the block of these samples.
pub record IsBlock (h : BlockHeader) (body : List ℕ) (samples : List Stamped) : Type 0 where
  pub mantissas : List ℤ
  pub header : IsHeader h
  pub len : length body ≡ h.times_len + h.values_len
  pub times : SaysTimes h body (times_of samples)
  pub rise : rise_from (pos 0) (times_of samples) ≡ true
  pub last : EndsAtLast h (times_of samples)
  pub column : SaysMantissas h body mantissas
  pub values : values_of samples ≡ map (scaled_by h.exponent) mantissas
  pub exponent : are_values h.exponent (values_of samples) ≡ true
  pub order : IsUp is_in_order samples

-- A header and a body are no block, and break at this place of the block: the first of these faults
-- that the bytes have.
pub data BreaksAt (h : BlockHeader) (body : List ℕ) (at : ℕ) : Type 0 where
  -- the column of times breaks
  no_times : (place : ℕ) → IsBroken h.times (pos h.first_time) h.count (take h.times_len body) place
      → at ≡ 40 + place → BreaksAt h body at
  -- times fall, or leave their range
  times_fall : (times : List ℤ) → SaysTimes h body times → rise_from (pos 0) times ≡ false → at ≡ 40
      → BreaksAt h body at
  -- the last time is another one than the header's
  another_end : (times : List ℤ) → SaysTimes h body times → rise_from (pos 0) times ≡ true
      → (EndsAtLast h times → ⊥) → at ≡ 16 → BreaksAt h body at
  -- the column of mantissas breaks
  no_mantissas : (times : List ℤ) → SaysTimes h body times → rise_from (pos 0) times ≡ true
      → EndsAtLast h times
      → (place : ℕ) → IsBroken h.values h.first_m h.count (drop h.times_len body) place
      → at ≡ 40 + h.times_len + place → BreaksAt h body at
  -- a value is no sample, or the exponent isn't theirs
  another_exponent : (times mantissas : List ℤ) → SaysTimes h body times
      → rise_from (pos 0) times ≡ true → EndsAtLast h times
      → SaysMantissas h body mantissas
      → are_values h.exponent (map (scaled_by h.exponent) mantissas) ≡ false → at ≡ 4
      → BreaksAt h body at
  -- values at one time fall
  values_fall : (samples : List Stamped) (mantissas : List ℤ) → SaysTimes h body (times_of samples)
      → rise_from (pos 0) (times_of samples) ≡ true → EndsAtLast h (times_of samples)
      → SaysMantissas h body mantissas → values_of samples ≡ map (scaled_by h.exponent) mantissas
      → are_values h.exponent (values_of samples) ≡ true → (IsUp is_in_order samples → ⊥) → at ≡ 24
      → BreaksAt h body at

-- what a reader answers: nothing is said where memory ran out
abbrev pub IsRefusal : BlockHeader → List ℕ → BlockFault → Type 0
IsRefusal h body Memory = ⊤
IsRefusal h body (Broken at) = BreaksAt h body at

-- these samples, unless memory ran out
abbrev pub Reads : Result (List Stamped) BlockFault → List Stamped → Type 0
Reads (Ok samples) block = samples ≡ block
Reads (Err fault) block = fault ≡ Memory
