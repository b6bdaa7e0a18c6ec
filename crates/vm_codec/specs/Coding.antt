-- The codings of a column of values: which bytes are in the grammar, and where others break.
use Rattle.std.specs.Prelude.{◌≡◌, ◌⊎◌, ℕ, ◌^◌, ◌<◌, ◌≤◌, ◌==◌, nat_le, nat_lt, ℤ, ◌-ℤ◌, unsigned_abs, Bool, true, List, [], ◌∷◌, ◌++◌, length, take, slice_get, Option, Some, None, All, if◌then◌else◌}
use Rattle.std.specs.Ordering.{int_eq}
use Rattle.std.specs.List.{flat_map, list_all}
use Rattle.vm_codec.specs.Integer.{integer}
use Rattle.vm_codec.specs.declared.coding.Coding.{Coding}
use Rattle.vm_codec.specs.declared.coding.Coding.TheVariants.{DeltaConst, Const, NearestDelta2, NearestDelta}

-- the byte that stands for a coding, and back
abbrev pub coding_number : Coding → ℕ
coding_number DeltaConst = 2
coding_number Const = 3
coding_number NearestDelta2 = 5
coding_number NearestDelta = 6

abbrev pub coding_of : ℕ → Option Coding
coding_of number =
    if number == 2 then Some DeltaConst
    else (if number == 3 then Some Const
    else (if number == 5 then Some NearestDelta2
    else (if number == 6 then Some NearestDelta else None)))

-- a value lies strictly between -10^18 and 10^18
abbrev pub in_bounds : ℤ → Bool
in_bounds value = nat_lt (unsigned_abs value) (10 ^ 18)

abbrev pub IsInBounds : ℤ → Type 0
IsInBounds value = unsigned_abs value < 10 ^ 18

-- how far each value lies above the one before it
abbrev pub differences : List ℤ → List ℤ
differences [] = []
differences (value ∷ []) = []
differences (value ∷ next ∷ more) = (next -ℤ value) ∷ differences (next ∷ more)

-- the integers that are spelled for values: the first difference, nothing, the first difference and
-- the differences of differences, or the differences
abbrev pub integers : Coding → List ℤ → List ℤ
integers DeltaConst values = take 1 (differences values)
integers Const values = []
integers NearestDelta2 values = take 1 (differences values) ++ differences (differences values)
integers NearestDelta values = differences values

-- the bytes of values in a coding
abbrev pub spelling : Coding → List ℤ → List ℕ
spelling coding values = flat_map integer (integers coding values)

-- whether all are the same
abbrev pub are_equal : List ℤ → Bool
are_equal [] = true
are_equal (value ∷ more) = list_all (int_eq value) more

-- which values a coding can spell
abbrev pub Suits : Coding → List ℤ → Type 0
Suits DeltaConst values = (2 ≤ length values) × (are_equal (differences values) ≡ true)
Suits Const values = are_equal values ≡ true
Suits NearestDelta2 values = 2 ≤ length values
Suits NearestDelta values = 2 ≤ length values

-- The grammar: these bytes are the column of these values, of which the first one stands elsewhere.
pub record IsColumn (coding : Coding) (first : ℤ) (count : ℕ) (bytes : List ℕ) (values : List ℤ) :
    Type 0 where
  pub begins : slice_get values 0 ≡ Some first
  pub len : length values ≡ count
  pub bounds : All IsInBounds values
  pub suits : Suits coding values
  pub spelled : bytes ≡ spelling coding values

-- the values that some first integers of a column give: all are given at once where they are equal
-- or equally far apart, else one by each integer
abbrev pub SuitsSoFar : Coding → ℕ → List ℤ → Type 0
SuitsSoFar DeltaConst count values = (length values ≡ 1)
    ⊎ ((length values ≡ count) × Suits DeltaConst values)
SuitsSoFar Const count values = (length values ≡ count) × Suits Const values
SuitsSoFar NearestDelta2 count values = length values ≤ count
SuitsSoFar NearestDelta count values = length values ≤ count

-- these values begin a column: the first is its first value, and all are in bounds
pub record IsBegun (coding : Coding) (first : ℤ) (count : ℕ) (values : List ℤ) : Type 0 where
  pub begins : slice_get values 0 ≡ Some first
  pub bounds : All IsInBounds values
  pub suits : SuitsSoFar coding count values

-- The bytes are no column, and break at this place: after the integers of the most values that they
-- begin with. So it is the first byte of an integer that is spelled wrongly, cut off or gives a
-- value out of bounds, or of what stands after the last one.
pub record IsBroken (coding : Coding) (first : ℤ) (count : ℕ) (bytes : List ℕ) (at : ℕ) :
    Type 0 where
  pub read : List ℤ
  pub rest : List ℕ
  pub begun : IsBegun coding first count read
  pub parts : bytes ≡ spelling coding read ++ rest
  pub place : at ≡ length (spelling coding read)
  pub longest : (values : List ℤ) (more : List ℕ) → length read < length values
      → IsBegun coding first count values → bytes ≡ spelling coding values ++ more → ⊥
  pub wrong : (values : List ℤ) → IsColumn coding first count bytes values → ⊥

-- The coding that is chosen: the one that needs no integer, or one, and else the shorter one.
abbrev pub chosen : List ℤ → Coding
chosen values =
    if are_equal values then Const
    else (if are_equal (differences values) then DeltaConst
    else (if nat_le (length (spelling NearestDelta2 values)) (length (spelling NearestDelta values))
    then NearestDelta2
    else NearestDelta))
