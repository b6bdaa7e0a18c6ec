-- The bytes of a label set in a file, and the place of the first fault of other bytes.
use Rattle.std.specs.Prelude.{◌≡◌, ℕ, ◌-◌, zero, suc, ◌==◌, ◌&&◌, nat_lt, not, Bool, List, [], ◌∷◌, ◌++◌, length, take, drop, slice_index, ◌<◌, flat_map, Option, Some, None, is_some, Result, Ok, Err, if◌then◌else◌, ⊤}
use Rattle.std.specs.List.{AllByRecursion}
use Rattle.std.specs.Str.{IsUtf8, is_utf8}
use Rattle.std.specs.Int.{w16, to_be_bytes, from_be_bytes}
use Rattle.vm_labels.specs.Name.{is_name}
use Rattle.vm_labels.specs.Labels.{IsLabels, is_below, limit_of}
use Rattle.vm_labels.specs.declared.pair.Pair.{Pair}
use Rattle.vm_labels.specs.declared.bytes.Stop.{Stop}
use Rattle.vm_labels.specs.declared.bytes.Stop.TheVariants as stops
use Rattle.vm_labels.specs.declared.bytes.Stop.TheVariants.{At}
use Rattle.vm_labels.specs.declared.fault.ReadFault.{ReadFault}
use Rattle.vm_labels.specs.declared.fault.ReadFault.TheVariants as faults
use Rattle.vm_labels.specs.declared.fault.ReadFault.TheVariants.{Broken}

-- two bytes of length, the higher first, and that many bytes
abbrev pub text_bytes : List ℕ → List ℕ
text_bytes text = to_be_bytes w16 (length text) ++ text

-- the bytes of a name and of its value
abbrev pub pair_bytes : Pair → List ℕ
pair_bytes p = text_bytes p.name ++ text_bytes p.value

-- two bytes that count the labels, and each label's name and value
abbrev pub label_set_bytes : List Pair → List ℕ
label_set_bytes pairs = to_be_bytes w16 (length pairs) ++ flat_map pair_bytes pairs

-- what has bytes: a label set within the limits of an import, of UTF-8
pub record HasBytes (pairs : List Pair) : Type 0 where
  pub labels : IsLabels pairs
  pub limits : limit_of pairs ≡ None
  pub texts : AllByRecursion (λ p. IsUtf8 p.value) pairs

-- ---- reading from left to right

-- A reader of a front answers with what it read and the bytes after that. It tells a fault by how
-- many bytes stand from it on, so that no reader has to know its own place.
infixl 10 ◌>>=◌
abbrev pub ◌>>=◌ : {A B : Type 0} → Result A ℕ → (A → Result B ℕ) → Result B ℕ
(Ok x) >>= f = f x
(Err left) >>= f = Err left

-- a number of two bytes, and what stands after it
abbrev pub number_at : List ℕ → Result (ℕ × List ℕ) ℕ
number_at bytes = if nat_lt (length bytes) 2 then Err (length bytes)
    else Ok (from_be_bytes w16 (take 2 bytes), drop 2 bytes)

-- so many bytes, and what stands after them
abbrev pub cut_at : ℕ → List ℕ → Result (List ℕ × List ℕ) ℕ
cut_at n bytes = if nat_lt (length bytes) n then Err (length bytes)
    else Ok (take n bytes, drop n bytes)

-- a text, or a fault at the first of these bytes where it breaks its rule
abbrev pub ruled : (List ℕ → Bool) → List ℕ → List ℕ × List ℕ → Result (List ℕ × List ℕ) ℕ
ruled rule bytes text = if rule text.0 then Ok text else Err (length bytes)

-- the text, where it keeps a rule
abbrev pub only_if : (List ℕ → Bool) → List ℕ → Option (List ℕ)
only_if rule text = if rule text then Some text else None

-- a length, and a text of that length that keeps a rule
unfoldable pub text_at : (List ℕ → Bool) → List ℕ → Result (List ℕ × List ℕ) ℕ
text_at rule bytes = do
  n ← number_at bytes
  text ← cut_at n.0 n.1
  ruled rule n.1 text

-- a name that stands after the one before it
abbrev pub is_next_name : Option (List ℕ) → List ℕ → Bool
is_next_name None name = is_name name
is_next_name (Some last) name = is_name name && is_below last name

-- whether a text is a value: UTF-8, and not empty
abbrev pub is_value : List ℕ → Bool
is_value value = not (length value == 0) && is_utf8 value

-- a name after the last one, and its value
unfoldable pub pair_at : Option (List ℕ) → List ℕ → Result (Pair × List ℕ) ℕ
pair_at last bytes = do
  name ← text_at (is_next_name last) bytes
  value ← text_at is_value name.1
  Ok (record { name = name.0; value = value.0 }, value.1)

-- so many pairs, after a name
unfoldable pub pairs_at : ℕ → Option (List ℕ) → List ℕ → Result (List Pair × List ℕ) ℕ
pairs_at zero last bytes = Ok ([], bytes)
pairs_at (suc n) last bytes = do
  first ← pair_at last bytes
  others ← pairs_at n (Some first.0.name) first.1
  Ok (first.0 ∷ others.0, others.1)

-- where bytes are left, the fault is at the first of them
abbrev pub ended : List Pair × List ℕ → Result (List Pair) ℕ
ended pairs = if length pairs.1 == 0 then Ok pairs.0 else Err (length pairs.1)

-- all of the bytes
unfoldable pub fields_of : List ℕ → Result (List Pair) ℕ
fields_of bytes = do
  n ← number_at bytes
  pairs ← pairs_at n.0 None n.1
  ended pairs

-- pairs that keep the limits of an import
abbrev pub limited : List Pair → Result (List Pair) ℕ
limited pairs = if is_some (limit_of pairs) then Err 0 else Ok pairs

-- of so many bytes in all: the place of the fault of a field, or else the limits
abbrev pub placed : ℕ → Result (List Pair) ℕ → Result (List Pair) ℕ
placed total (Err left) = Err (total - left)
placed total (Ok pairs) = limited pairs

-- The label set whose bytes these are, or the place of the first fault: at the first field that is
-- cut off or breaks its rule, at the bytes left over, or else at 0 where the limits of an import
-- are broken.
unfoldable pub label_set_of : List ℕ → Result (List Pair) ℕ
label_set_of bytes = placed (length bytes) (fields_of bytes)

-- ---- laws

-- what is written is read again
abbrev pub WrittenIsRead : Type 0
WrittenIsRead = (pairs : List Pair) → HasBytes pairs
    → label_set_of (label_set_bytes pairs) ≡ Ok pairs

-- what is read was written
abbrev pub ReadIsWritten : Type 0
ReadIsWritten = (bytes : List ℕ) (pairs : List Pair) → ((i : ℕ) → slice_index bytes i < 256)
    → label_set_of bytes ≡ Ok pairs → HasBytes pairs × (bytes ≡ label_set_bytes pairs)

-- the bytes of a label set are the front of no other's bytes
abbrev pub NoneBeginsAnother : Type 0
NoneBeginsAnother = (pairs others : List Pair) (more rest : List ℕ) → HasBytes pairs
    → HasBytes others → label_set_bytes pairs ++ more ≡ label_set_bytes others ++ rest
    → (pairs ≡ others) × (more ≡ rest)

-- ---- what calls give

-- A reader of a front, whose answer is seen by view, gives what the definition says, unless memory
-- ran out.
abbrev pub Stops : {Y : Type 0} → Stop → Result Y ℕ → Type 0
Stops stops.Memory read = ⊤
Stops (At left) read = read ≡ Err left

-- what a caller learns of it, who counts places from the front of all these bytes
abbrev pub fault_of : ℕ → Stop → ReadFault
fault_of total stops.Memory = faults.Memory
fault_of total (At left) = Broken (total - left)

-- the whole answer of such a reader
abbrev pub Takes : {X Y : Type 0} → (X → Y) → Result X Stop → Result Y ℕ → Type 0
Takes view (Ok x) read = read ≡ Ok (view x)
Takes view (Err stop) read = Stops stop read

-- A reader of all bytes gives what the definition says, unless memory ran out.
abbrev pub Breaks : ReadFault → Result (List Pair) ℕ → Type 0
Breaks faults.Memory read = ⊤
Breaks (Broken at) read = read ≡ Err at

-- the whole answer of such a reader
abbrev pub Reads : Result (List Pair) ReadFault → Result (List Pair) ℕ → Type 0
Reads (Ok labels) read = read ≡ Ok labels
Reads (Err fault) read = Breaks fault read
