-- What a reader finds, field by field. Only private functions cite it.
use Rattle.std.specs.Prelude.{◌≡◌, ◌==◌, ◌&&◌, ◌-◌, ◌*◌, ◌^◌, ◌<◌, ◌≤◌, nat_lt, max, ℕ, ℤ, pos, ◌*ℤ◌, unsigned_abs, Bool, true, false, List, [], ◌∷◌, map, length, slice_index, Option, Some, None, if◌then◌else◌, ⊤}
use Rattle.std.specs.List.{list_all}
use Rattle.std.specs.Int.{w16, w32, w64, from_be_bytes, cast_signed}
use Rattle.vm_base.specs.Sample.{is_sample}
use Rattle.vm_base.specs.Stamped.{is_in_order}
use Rattle.vm_base.specs.declared.stamped.Stamped.{Stamped}
use Rattle.vm_codec.specs.Coding.{coding_of, IsBroken}
use Rattle.vm_codec.specs.declared.coding.Coding.{Coding}
use Rattle.vm_block.specs.declared.fault.BlockFault.{BlockFault}
use Rattle.vm_block.specs.declared.fault.BlockFault.TheVariants.{Broken, Memory}
use Rattle.vm_block.specs.declared.header.BlockHeader.{BlockHeader}
use Rattle.vm_block.specs.declared.shared.Shared.{Shared}
use Rattle.vm_block.specs.Block.{times_of, values_of, scaled_by, least_shift}
use Rattle.vm_block.specs.Cut.{share_exponent}
use Rattle.vm_block.specs.Header.{field, IsHeader}

-- each field is read from its place and keeps its rule, as the two bytes at 6 do
pub record AreFields (bytes : List ℕ) (h : BlockHeader) : Type 0 where
  pub count : h.count ≡ from_be_bytes w16 (field 2 0 bytes)
  pub times : coding_of (slice_index bytes 2) ≡ Some h.times
  pub values : coding_of (slice_index bytes 3) ≡ Some h.values
  pub exponent : h.exponent ≡ cast_signed w16 (from_be_bytes w16 (field 2 4 bytes))
  pub first_time : h.first_time ≡ from_be_bytes w64 (field 8 8 bytes)
  pub last_time : h.last_time ≡ from_be_bytes w64 (field 8 16 bytes)
  pub first_m : h.first_m ≡ cast_signed w64 (from_be_bytes w64 (field 8 24 bytes))
  pub times_len : h.times_len ≡ from_be_bytes w32 (field 4 32 bytes)
  pub values_len : h.values_len ≡ from_be_bytes w32 (field 4 36 bytes)
  pub zero : from_be_bytes w16 (field 2 6 bytes) ≡ 0
  pub keeps : IsHeader h

-- whether each sample may follow the one before it, and the first of them this one
abbrev pub never_falls : Stamped → List Stamped → Bool
never_falls last [] = true
never_falls last (sample ∷ more) = is_in_order last sample && never_falls sample more

-- samples with these times, their signs let go, and with the values of these mantissas
pub record AreStamped (e : ℤ) (ts ms : List ℤ) (samples : List Stamped) : Type 0 where
  pub times : times_of samples ≡ map (λ time. pos (unsigned_abs time)) ts
  pub values : values_of samples ≡ map (scaled_by e) ms
  pub are : list_all is_sample (map (scaled_by e) ms) ≡ true

-- why a column gives no values: nothing is said where memory ran out, and its bytes break within
-- them or at their end
abbrev pub IsColumnFault : Coding → ℤ → ℕ → List ℕ → BlockFault → Type 0
IsColumnFault coding first count bytes Memory = ⊤
IsColumnFault coding first count bytes (Broken at) = IsBroken coding first count bytes at
    × (at ≤ length bytes)

-- the exponent of a sample, counted from -1000, where there is one
abbrev pub InShifts : Option ℕ → Type 0
InShifts None = ⊤
InShifts (Some shift) = (650 ≤ shift) × (shift ≤ 1350)

-- ---- the exponent that values share

-- the greatest size of a value
abbrev pub greatest_size : List ℤ → ℕ
greatest_size [] = 0
greatest_size (z ∷ more) = max (unsigned_abs z) (greatest_size more)

-- this is the least exponent of these values and the greatest size of a mantissa at it, which fits
pub record IsShared (values : List ℤ) (shared : Shared) : Type 0 where
  pub least : least_shift values ≡ (if shared.greatest == 0 then None else Some shared.shift)
  pub greatest : shared.greatest * 10 ^ shared.shift ≡ greatest_size values
  pub few : shared.greatest < 10 ^ 18

-- what is shared by some values and others of a greater exponent
abbrev pub raise_of : Shared → Shared → Option Shared
raise_of low high =
    let raised = high.greatest * 10 ^ (high.shift - low.shift) in
    if nat_lt raised (10 ^ 18)
    then Some (record { shift = low.shift; greatest = max raised low.greatest }) else None

-- what is shared by some values and others
abbrev pub join_of : Shared → Shared → Option Shared
join_of one two =
    if two.greatest == 0 then Some one
    else (if one.greatest == 0 then Some two
    else (if nat_lt one.shift two.shift then raise_of one two else raise_of two one))

-- what that says of values, or that they share no exponent
abbrev pub Joined : List ℤ → Option Shared → Type 0
Joined values None = share_exponent values ≡ false
Joined values (Some shared) = IsShared values shared

-- ---- mantissas

-- a mantissa at an exponent plus 1000, in units of 10^-1000
abbrev pub raised_by : ℕ → ℤ → ℤ
raised_by shift m = m *ℤ pos (10 ^ shift)
