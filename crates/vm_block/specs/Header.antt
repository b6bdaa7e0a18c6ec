-- The header of a block: the rules of its fields, its 40 bytes, and the first field that breaks its
-- rule.
use Rattle.std.specs.Prelude.{◌≡◌, ℕ, ◌^◌, ◌==◌, ◌&&◌, nat_le, nat_lt, ℤ, pos, negsuc, int_le, Bool, true, List, [], ◌∷◌, ◌++◌, take, drop, slice_index, Option, Some, None, is_some, if◌then◌else◌}
use Rattle.std.specs.Int.{w16, w32, w64, from_be_bytes, to_be_bytes, cast_signed, cast_unsigned}
use Rattle.vm_codec.specs.Coding.{coding_number, coding_of, in_bounds}
use Rattle.vm_block.specs.declared.header.BlockHeader.{BlockHeader}

-- ---- rules

-- of how many samples there are
abbrev pub is_count : ℕ → Bool
is_count n = nat_le 1 n && nat_le n 8192

-- of the exponent of ten
abbrev pub is_exponent : ℤ → Bool
is_exponent e = int_le (negsuc 349) e && int_le e (pos 350)

-- of a time, in ms
abbrev pub is_time : ℕ → Bool
is_time time = nat_lt time (2 ^ 48)

-- of the last time, which isn't below the first one
abbrev pub is_last_time : ℕ → ℕ → Bool
is_last_time first last = is_time last && nat_le first last

-- of a column's length in bytes
abbrev pub is_column_len : ℕ → Bool
is_column_len len = nat_le len 81920

-- a header keeps the rules of its fields
pub record IsHeader (h : BlockHeader) : Type 0 where
  pub count : is_count h.count ≡ true
  pub exponent : is_exponent h.exponent ≡ true
  pub first_time : is_time h.first_time ≡ true
  pub last_time : is_last_time h.first_time h.last_time ≡ true
  pub first_m : in_bounds h.first_m ≡ true
  pub times_len : is_column_len h.times_len ≡ true
  pub values_len : is_column_len h.values_len ≡ true

-- ---- bytes

-- The bytes of a header: its fields in order, each number with its highest byte first, and a signed
-- one in two's complement.
unfoldable pub header_bytes : BlockHeader → List ℕ
header_bytes h =
    to_be_bytes w16 h.count ++ coding_number h.times ∷ coding_number h.values ∷ []
    ++ to_be_bytes w16 (cast_unsigned w16 h.exponent) ++ 0 ∷ 0 ∷ []
    ++ to_be_bytes w64 h.first_time ++ to_be_bytes w64 h.last_time
    ++ to_be_bytes w64 (cast_unsigned w64 h.first_m)
    ++ to_be_bytes w32 h.times_len ++ to_be_bytes w32 h.values_len

-- ---- the first fault

-- so many bytes at a place
abbrev pub field : ℕ → ℕ → List ℕ → List ℕ
field len at bytes = take len (drop at bytes)

-- The place of each field, and whether the field keeps its rule: the lengths of the columns, which
-- stand last, and all of them.
abbrev pub len_rules : List ℕ → List (ℕ × Bool)
len_rules bytes =
    (32, is_column_len (from_be_bytes w32 (field 4 32 bytes)))
    ∷ (36, is_column_len (from_be_bytes w32 (field 4 36 bytes)))
    ∷ []

abbrev pub field_rules : List ℕ → List (ℕ × Bool)
field_rules bytes =
    (0, is_count (from_be_bytes w16 (field 2 0 bytes)))
    ∷ (2, is_some (coding_of (slice_index bytes 2)))
    ∷ (3, is_some (coding_of (slice_index bytes 3)))
    ∷ (4, is_exponent (cast_signed w16 (from_be_bytes w16 (field 2 4 bytes))))
    ∷ (6, from_be_bytes w16 (field 2 6 bytes) == 0)
    ∷ (8, is_time (from_be_bytes w64 (field 8 8 bytes)))
    ∷ (
      16,
      is_last_time (from_be_bytes w64 (field 8 8 bytes))
          (from_be_bytes w64 (field 8 16 bytes)),
    )
    ∷ (24, in_bounds (cast_signed w64 (from_be_bytes w64 (field 8 24 bytes))))
    ∷ len_rules bytes

-- the place of the first field that breaks its rule
abbrev pub first_broken : List (ℕ × Bool) → Option ℕ
first_broken [] = None
first_broken (rule ∷ more) = if rule.1 then first_broken more else Some rule.0
