-- Reading from left to right, step by step as `decode` does. What is read is what `IsColumn` says.
use Rattle.std.specs.Prelude.{ℕ, zero, suc, ◌+◌, ◌-◌, ◌*◌, ◌^◌, ◌==◌, ◌&&◌, nat_lt, ℤ, pos, ◌+ℤ◌, ◌-ℤ◌, List, [], ◌∷◌, length, replicate, Option, Some, None, Result, Ok, Err, Bool, true, false, not, if◌then◌else◌}
use Rattle.std.specs.Option.{option_and_then, option_map}
use Rattle.vm_codec.specs.Integer.{unzigzag}
use Rattle.vm_codec.specs.Coding.{in_bounds}
use Rattle.vm_codec.specs.declared.coding.Coding.{Coding}
use Rattle.vm_codec.specs.declared.coding.Coding.TheVariants.{DeltaConst, Const, NearestDelta2, NearestDelta}

-- the number of at most so many groups at the front, and the bytes after it; more than one group
-- must not end with 0
unfoldable pub groups_at : ℕ → List ℕ → Option (ℕ × List ℕ)
groups_at zero bytes = None
groups_at (suc more) [] = None
groups_at (suc more) (byte ∷ bytes) =
    if nat_lt byte 128 then Some (byte, bytes)
    else option_and_then (λ r. if r.0 == 0 then None else Some (byte - 128 + 128 * r.0, r.1))
    (groups_at more bytes)

-- a number that was read, where it is below 2^64
abbrev pub in_64_bits : Option (ℕ × List ℕ) → Option (ℕ × List ℕ)
in_64_bits r = option_and_then (λ r. if nat_lt r.0 (2 ^ 64) then Some r else None) r

-- the number below 2^64 at the front, and the bytes after it
unfoldable pub number_at : List ℕ → Option (ℕ × List ℕ)
number_at bytes = in_64_bits (groups_at 10 bytes)

-- what stands at the front where it follows so many groups of a number, which are worth `below`,
-- and its first group counts `scale`
abbrev pub behind : ℕ → ℕ → ℕ → Option (ℕ × List ℕ) → Option (ℕ × List ℕ)
behind place below scale rest =
    option_and_then
    (λ r. if nat_lt 0 place && r.0 == 0 then None else Some (below + scale * r.0, r.1)) rest

-- a value, where it is in bounds
abbrev pub bounded : ℤ → Option ℤ
bounded value = if in_bounds value then Some value else None

-- the value after this one, by the integer at the front, which says how far the next difference
-- lies above `lean`
unfoldable pub next_at : ℤ → ℤ → List ℕ → Option (ℤ × List ℕ)
next_at value lean bytes =
    option_and_then
    (λ r. option_map (λ next. (next, r.1)) (bounded (value +ℤ lean +ℤ unzigzag r.0)))
    (number_at bytes)

-- what the integer after a difference is counted from
abbrev pub lean_after : Coding → ℤ → ℤ
lean_after NearestDelta2 difference = difference
lean_after _ difference = pos 0

-- A reading gives values and the bytes after them, or how many bytes are left where it breaks.
-- a value put before the values that are read
abbrev pub onto : ℤ → Result (List ℤ × List ℕ) ℕ → Result (List ℤ × List ℕ) ℕ
onto value (Ok r) = Ok (value ∷ r.0, r.1)
onto value (Err left) = Err left

-- the next value and those that are read after it; without one the reading breaks
abbrev pub then_more : Option (ℤ × List ℕ) → ℕ → (ℤ → List ℕ → Result (List ℤ × List ℕ) ℕ)
    → Result (List ℤ × List ℕ) ℕ
then_more None left read = Err left
then_more (Some next) left read = onto next.0 (read next.0 next.1)

-- so many values after this one, each by an integer
unfoldable pub values_at : Coding → ℕ → ℤ → ℤ → List ℕ → Result (List ℤ × List ℕ) ℕ
values_at coding zero value lean bytes = Ok ([], bytes)
values_at coding (suc more) value lean bytes =
    then_more (next_at value lean bytes) (length bytes)
    (λ next rest. values_at coding more next (lean_after coding (next -ℤ value)) rest)

-- so many values after this one, each as far above the one before it, none where one is out of
-- bounds
unfoldable pub steps_from : ℕ → ℤ → ℤ → Option (List ℤ)
steps_from zero value step = Some []
steps_from (suc more) value step =
    option_and_then (λ next. option_map (λ others. next ∷ others) (steps_from more next step))
    (bounded (value +ℤ step))

-- such values and the bytes after their integer, or a break
abbrev pub steps_then : Option (List ℤ) → List ℕ → ℕ → Result (List ℤ × List ℕ) ℕ
steps_then None rest left = Err left
steps_then (Some values) rest left = Ok (values, rest)

-- values as far apart as the integer that was read says
abbrev pub steps_by : Option (ℕ × List ℕ) → ℕ → ℤ → ℕ → Result (List ℤ × List ℕ) ℕ
steps_by None count value left = Err left
steps_by (Some r) count value left = steps_then (steps_from count value (unzigzag r.0)) r.1 left

-- so many values after the first one
unfoldable pub column_at : Coding → ℤ → ℕ → List ℕ → Result (List ℤ × List ℕ) ℕ
column_at DeltaConst first count bytes = steps_by (number_at bytes) count first (length bytes)
column_at Const first count bytes = Ok (replicate count first, bytes)
column_at NearestDelta2 first count bytes = values_at NearestDelta2 count first (pos 0) bytes
column_at NearestDelta first count bytes = values_at NearestDelta count first (pos 0) bytes

-- only `Const` spells one value
abbrev pub is_const : Coding → Bool
is_const Const = true
is_const _ = false

-- the values of a column that takes all of the bytes, or where the bytes break
abbrev pub all_read : ℕ → Result (List ℤ × List ℕ) ℕ → Result (List ℤ) ℕ
all_read len (Ok r) = if length r.1 == 0 then Ok r.0 else Err (len - length r.1)
all_read len (Err left) = Err (len - left)

-- the values of a column, or the place where its bytes break
unfoldable pub decoded : Coding → ℤ → ℕ → List ℕ → Result (List ℤ) ℕ
decoded coding first count bytes =
    if count == 1 && not (is_const coding) then Err 0
    else all_read (length bytes) (onto first (column_at coding first (count - 1) bytes))
