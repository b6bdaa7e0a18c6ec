-- Which bytes are a label table and its postings, and where others break.
use Rattle.std.specs.Prelude.{◌≡◌, ◌⊎◌, ℕ, ◌+◌, ◌-◌, ◌<◌, ◌≤◌, ◌^◌, nat_lt, false, List, [], ◌∷◌, ◌++◌, length, take, drop, bytes_eq, Option, Some, None, Result, Ok, Err, if◌then◌else◌, ⊤}
use Rattle.std.specs.List.{list_all}
use Rattle.std.specs.Int.{w32, to_be_bytes, from_be_bytes}
use Rattle.vm_labels.specs.Bytes.{HasBytes, label_set_bytes, label_set_of, ◌>>=◌}
use Rattle.vm_labels.specs.declared.pair.Pair.{Pair}
use Rattle.vm_index.specs.Bytes.{framed, postings_fields, table_bytes}
use Rattle.vm_index.specs.Index.{AreSets, is_set_below, postings_of}
use Rattle.vm_index.specs.declared.fault.IndexFault.{IndexFault}
use Rattle.vm_index.specs.declared.fault.IndexFault.TheVariants.{BrokenTable, BrokenPostings, Memory}

-- ---- the label table

-- the bytes are the table of so many label sets
pub record IsTable (count : ℕ) (table : List ℕ) (sets : List (List Pair)) : Type 0 where
  pub many : length sets ≡ count
  pub labels : AreSets sets
  pub spelled : table ≡ table_bytes sets

-- What is wrong with the bytes after some label sets, where so many more are due, and at which
-- place of these bytes: they are left over; a length is cut off, or goes past the end; a label set
-- is none, or doesn't stand after those before it.
pub data BreaksBehind (sets : List (List Pair)) (due : ℕ) (rest : List ℕ) : ℕ → Type 0 where
  left_over : due ≡ 0 → 0 < length rest → BreaksBehind sets due rest 0
  no_length : 0 < due → length rest < 4 → BreaksBehind sets due rest 0
  past_the_end : (n : ℕ) (more : List ℕ) → 0 < due → n < 2 ^ 32 → rest ≡ to_be_bytes w32 n ++ more
      → length more < n → BreaksBehind sets due rest 0
  no_set : (bytes more : List ℕ) (at : ℕ) → 0 < due → length bytes < 2 ^ 32
      → rest ≡ to_be_bytes w32 (length bytes) ++ bytes ++ more
      → label_set_of bytes ≡ Err at → BreaksBehind sets due rest (4 + at)
  no_rise : (set : List Pair) (more : List ℕ) → 0 < due → HasBytes set → rest ≡ framed set ++ more
      → list_all (λ s. is_set_below s set) sets ≡ false → BreaksBehind sets due rest 4

-- the first wrong place of a table of so many label sets: some stand there, and after them it
-- breaks
pub record TableBreaks (count : ℕ) (table : List ℕ) (at : ℕ) : Type 0 where
  pub sets : List (List Pair)
  pub rest : List ℕ
  pub place : ℕ
  pub labels : AreSets sets
  pub few : length sets ≤ count
  pub parts : table ≡ table_bytes sets ++ rest
  pub broken : BreaksBehind sets (count - length sets) rest place
  pub is : at ≡ length (table_bytes sets) + place

-- ---- the postings

-- the bytes after a field, or how many there are where the field doesn't stand
abbrev pub behind : List ℕ → List ℕ → Result (List ℕ) ℕ
behind field bytes = if bytes_eq (take (length field) bytes) field
    then Ok (drop (length field) bytes) else Err (length bytes)

-- the bytes after fields that stand one after the other, or how many there are from the first one
-- on that doesn't
abbrev pub behind_all : List (List ℕ) → List ℕ → Result (List ℕ) ℕ
behind_all [] bytes = Ok bytes
behind_all (field ∷ fields) bytes = behind field bytes >>= behind_all fields

-- of so many bytes in all: the place from which on nothing fits
abbrev pub off_place : ℕ → Result (List ℕ) ℕ → Option ℕ
off_place total (Ok rest) = if nat_lt 0 (length rest) then Some (total - length rest) else None
off_place total (Err left) = Some (total - left)

-- the place of the first field that isn't the due one, or of bytes left over after the last field
abbrev pub first_off : List (List ℕ) → List ℕ → Option ℕ
first_off fields bytes = off_place (length bytes) (behind_all fields bytes)

-- ---- what calls give

-- a reader of a front, whose answer is seen by view, gives what the definition says
abbrev pub Gives : {X Y : Type 0} → (X → Y) → Result X ℕ → Result Y ℕ → Type 0
Gives view (Ok x) read = read ≡ Ok (view x)
Gives view (Err left) read = read ≡ Err left

-- why a table is refused; nothing is said where memory ran out
abbrev pub TableFault : ℕ → List ℕ → IndexFault → Type 0
TableFault count table (BrokenTable at) = TableBreaks count table at
TableFault count table (BrokenPostings at) = ⊥
TableFault count table Memory = ⊤

-- why a table with postings is refused: the table breaks, or the postings aren't those of its sets
abbrev pub IsRefused : ℕ → List ℕ → List ℕ → IndexFault → Type 0
IsRefused count table postings (BrokenTable at) = TableBreaks count table at
IsRefused count table postings (BrokenPostings at) =
    (sets : List (List Pair)) × IsTable count table sets
    × (first_off (postings_fields (postings_of sets)) postings ≡ Some at)
IsRefused count table postings Memory = ⊤

-- one label set more
pub record Joins (sets : List (List Pair)) (bytes : List ℕ) (more : List (List Pair)) : Type 0 where
  pub set : List Pair
  pub written : HasBytes set
  pub spelled : bytes ≡ label_set_bytes set
  pub put : more ≡ sets ++ set ∷ []
  pub labels : AreSets more

-- why a label set at a place doesn't join those before it
abbrev pub SetFault : List (List Pair) → List ℕ → ℕ → IndexFault → Type 0
SetFault sets bytes at (BrokenTable place) =
    ((n : ℕ) × (label_set_of bytes ≡ Err n) × (place ≡ at + n))
    ⊎ ((set : List Pair) × HasBytes set × (bytes ≡ label_set_bytes set)
    × (list_all (λ s. is_set_below s set) sets ≡ false) × (place ≡ at))
SetFault sets bytes at (BrokenPostings place) = ⊥
SetFault sets bytes at Memory = ⊤

-- how long the label set at the front is, where its length stands there and doesn't go past the end
abbrev pub frame_len : List ℕ → Option ℕ
frame_len bytes =
    if nat_lt (length bytes) 4 then None
    else if nat_lt (length (drop 4 bytes)) (from_be_bytes w32 (take 4 bytes)) then None
    else Some (from_be_bytes w32 (take 4 bytes))
