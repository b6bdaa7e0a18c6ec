-- A line read by its parts. That this is what its JSON says is proved.
use Rattle.std.specs.Prelude.{ℕ, ◌==◌, ◌||◌, nat_lt, Bool, ℤ, List, [], ◌∷◌, length, take, drop, slice_index, Option, Some, None, option_map, option_and_then, codes, if◌then◌else◌}
use Rattle.std.specs.Char.{is_ascii_digit}
use Rattle.std.specs.List.{prefix_len}
use Rattle.vm_decimal.specs.SampleReading.{sample_reading}
use Rattle.vm_json.specs.Machine.{wrong_place}
use Rattle.vm_labels.specs.Labels.{built}
use Rattle.vm_labels.specs.declared.pair.Pair.{Pair}
use Rattle.vm_labels.specs.declared.row.Row.{Row}
use Rattle.vm_jsonline.specs.Parts.{behind_spaces, string_at, items, members, Part}
use Rattle.vm_jsonline.specs.Series.{all_of, once, is_text, kept, value_of, no_value, time_in, series_rows, or_skipped, ◌>>=◌}
use Rattle.vm_jsonline.specs.Strings.{string_reading, is_paired}
use Rattle.vm_jsonline.specs.declared.line.JsonLine.{JsonLine}
use Rattle.vm_jsonline.specs.declared.line.JsonLine.TheVariants.{Nothing, Skipped}

-- a digit, a sign, a point, `e` or `E`
abbrev pub is_number_byte : ℕ → Bool
is_number_byte b = is_ascii_digit b || b == 45 || b == 43 || b == 46 || b == 101 || b == 69

-- the number at the front
abbrev pub number_at : List ℕ → List ℕ
number_at text = take (prefix_len is_number_byte text) text

-- the text of the string at the front, none where no string stands there
unfoldable pub text_at : List ℕ → Option (List ℕ)
text_at text =
    if slice_index text 0 == 34
    then option_and_then (λ s. string_reading s.0) (string_at (drop 1 text)) else None

-- the label of a member, where its value is a string
unfoldable pub pair_at : Part → Option Pair
pair_at part =
    option_and_then
    (λ name. option_map (λ value. record { name = name; value = value }) (text_at part.value))
    (string_reading part.key)

-- whether a byte begins a number
abbrev pub begins_number : ℕ → Bool
begins_number b = is_ascii_digit b || b == 45

-- what the item at the front says: its value, or that there is none
unfoldable pub sample_at : List ℕ → Option (Option ℤ)
sample_at text =
    if slice_index text 0 == 110 then Some None
    else (if slice_index text 0 == 34
    then option_and_then (λ t. no_value (sample_reading t)) (text_at text)
    else (if begins_number (slice_index text 0) then value_of (sample_reading (number_at text))
    else None))

-- the time at the front, where it is one
unfoldable pub time_at : List ℕ → Option ℕ
time_at text = if is_ascii_digit (slice_index text 0) then time_in (number_at text) else None

-- what stands after an opening bracket
abbrev pub inside : ℕ → List ℕ → Option (List ℕ)
inside bracket text = if slice_index text 0 == bracket then Some (drop 1 text) else None

-- all members of an object, after its bracket
abbrev pub all_members : List ℕ → List Part
all_members text = members (length text) text

-- all items of an array, after its bracket
abbrev pub all_items : List ℕ → List (List ℕ)
all_items text = items (length text) text

-- the labels of an object of strings
unfoldable pub pairs_reading : List ℕ → Option (List Pair)
pairs_reading text = option_and_then (λ inner. all_of pair_at (all_members inner)) (inside 123 text)

-- what the items of an array say
unfoldable pub samples_reading : List ℕ → Option (List (Option ℤ))
samples_reading text =
    option_and_then (λ inner. all_of sample_at (all_items inner)) (inside 91 text)

-- the times of an array
unfoldable pub times_reading : List ℕ → Option (List ℕ)
times_reading text = option_and_then (λ inner. all_of time_at (all_items inner)) (inside 91 text)

-- the texts that begin with the values of this key
abbrev pub parts_at : List ℕ → List Part → List (List ℕ)
parts_at name [] = []
parts_at name (p ∷ ps) = if is_text name (string_reading p.key) then p.value ∷ parts_at name ps
    else parts_at name ps

-- the text that begins with the value of the one member with this key
unfoldable pub only_part : List ℕ → List Part → Option (List ℕ)
only_part name parts = once (parts_at name parts)

-- the rows of a line's members
unfoldable pub parts_rows : List Part → Option (List Row)
parts_rows parts = do
  metric ← only_part (codes "metric") parts
  values ← only_part (codes "values") parts
  timestamps ← only_part (codes "timestamps") parts
  pairs ← pairs_reading metric
  samples ← samples_reading values
  times ← times_reading timestamps
  labels ← kept (built pairs)
  series_rows samples times labels

-- the rows of a text, after any white space
unfoldable pub rows_reading : List ℕ → Option (List Row)
rows_reading text = option_and_then (λ inner. parts_rows (all_members inner)) (inside 123 text)

-- the rows of a line, where no half of a pair of UTF-16 stands alone in it
abbrev pub line_rows : List ℕ → List ℕ → Option (List Row)
line_rows line text = if is_paired line then rows_reading text else None

-- what a line comes to, by the place where it is no JSON
abbrev pub of_place : List ℕ → List ℕ → Option ℕ → JsonLine
of_place line text (Some at) = Skipped at
of_place line text None = or_skipped (line_rows line text)

-- what a line comes to that isn't too long
unfoldable pub short_reading : List ℕ → JsonLine
short_reading line =
    let text = behind_spaces line in
    if length text == 0 then Nothing else of_place line text (wrong_place line)

-- what a line comes to
unfoldable pub reading : List ℕ → JsonLine
reading line = if nat_lt 4194304 (length line) then Skipped 4194304 else short_reading line
