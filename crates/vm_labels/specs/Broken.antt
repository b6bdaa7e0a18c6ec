-- The place of the first fault of bytes that are no label set's, told by fields and apart from any
-- reader.
use Rattle.std.specs.Prelude.{◌≡◌, ◌≢◌, ◌⊎◌, ℕ, zero, suc, ◌<◌, ◌^◌, true, List, [], ◌++◌, ◌-◌, length, Option, Some, None, ⊤}
use Rattle.std.specs.Int.{w16, to_be_bytes}
use Rattle.vm_labels.specs.Labels.{IsLabels, limit_of}
use Rattle.vm_labels.specs.Bytes.{is_next_name, is_value, label_set_bytes}
use Rattle.vm_labels.specs.declared.pair.Pair.{Pair}
use Rattle.vm_labels.specs.declared.fault.ReadFault.{ReadFault}
use Rattle.vm_labels.specs.declared.fault.ReadFault.TheVariants.{Broken, Memory}

-- What stands next: the number of labels; of a label, before so many more and after the last name,
-- the name's length, the name, its value's length or the value; or the end.
pub data Next : Type 0 where
  a_number : Next
  a_name_length : (more : ℕ) (last : Option (List ℕ)) → Next
  a_name : (more : ℕ) (last : Option (List ℕ)) (len : ℕ) → Next
  a_value_length : (more : ℕ) (name : List ℕ) → Next
  a_value : (more : ℕ) (name : List ℕ) (len : ℕ) → Next
  the_end : Next

-- of so many labels after the last name, the first
abbrev pub next_label : ℕ → Option (List ℕ) → Next
next_label zero last = the_end
next_label (suc more) last = a_name_length more last

-- two bytes that are a number
abbrev pub IsNumber : List ℕ → ℕ → Type 0
IsNumber field n = (n < 2 ^ 16) × (field ≡ to_be_bytes w16 n)

-- the bytes are a field that keeps its rule where `next` is awaited, and `later` is awaited after
-- it
abbrev pub IsField : Next → List ℕ → Next → Type 0
IsField a_number field later = (n : ℕ) × IsNumber field n × (later ≡ next_label n None)
IsField (a_name_length more last) field later = (n : ℕ) × IsNumber field n
    × (later ≡ a_name more last n)
IsField (a_name more last len) field later = (length field ≡ len) × (is_next_name last field ≡ true)
    × (later ≡ a_value_length more field)
IsField (a_value_length more name) field later = (n : ℕ) × IsNumber field n
    × (later ≡ a_value more name n)
IsField (a_value more name len) field later = (length field ≡ len) × (is_value field ≡ true)
    × (later ≡ next_label more (Some name))
IsField the_end field later = ⊥

-- fields one after the other, and what is awaited after them
pub data Fields : Next → List ℕ → Next → Type 0 where
  no_field : {next : Next} → Fields next [] next
  a_field : {next later last : Next} (field rest : List ℕ) → IsField next field later
      → Fields later rest last → Fields next (field ++ rest) last

-- The fields up to the place keep their rules, and no field that keeps its rule stands there; nor
-- do the bytes end there where they may.
pub record BreaksAt (next : Next) (bytes rest : List ℕ) : Type 0 where
  pub front : List ℕ
  pub later : Next
  pub parts : bytes ≡ front ++ rest
  pub read : Fields next front later
  pub broken : (field more : List ℕ) (behind : Next) → rest ≡ field ++ more
      → IsField later field behind → ⊥
  pub not_done : later ≡ the_end → rest ≢ []

-- the first wrong field begins at the place
abbrev pub IsFirstBroken : List ℕ → ℕ → Type 0
IsFirstBroken bytes at = (rest : List ℕ) × BreaksAt a_number bytes rest
    × (at ≡ length bytes - length rest)

-- no field is wrong, but the label set breaks a limit of an import
abbrev pub IsOverLimit : List ℕ → ℕ → Type 0
IsOverLimit bytes at = (pairs : List Pair) × IsLabels pairs × (bytes ≡ label_set_bytes pairs)
    × (limit_of pairs ≢ None) × (at ≡ 0)

-- why bytes are refused; nothing is said where memory ran out
abbrev pub IsRefusal : ReadFault → List ℕ → Type 0
IsRefusal Memory bytes = ⊤
IsRefusal (Broken at) bytes = IsFirstBroken bytes at ⊎ IsOverLimit bytes at
