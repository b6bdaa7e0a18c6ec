-- What a line of JSON says, once it is known what JSON it is.
use Rattle.std.specs.Prelude.{ℕ, ◌^◌, ◌==◌, ◌&&◌, nat_lt, Bool, true, false, ℤ, List, [], ◌∷◌, length, Option, Some, None, option_map, option_and_then, is_some, Result, Ok, Err, codes, if◌then◌else◌}
use Rattle.std.specs.Char.{is_ascii_digit}
use Rattle.std.specs.List.{list_all}
use Rattle.std.specs.Str.{bytes_eq}
use Rattle.std.specs.Str.Parse.{digits_value}
use Rattle.vm_decimal.specs.declared.sample_text.NumFault.{NumFault}
use Rattle.vm_decimal.specs.declared.sample_text.SampleText.{SampleText}
use Rattle.vm_decimal.specs.declared.sample_text.SampleText.TheVariants.{Value, NoNumber}
use Rattle.vm_json.specs.Grammar.{Piece, Json, null, boolean, number, string, array, object, Jsons, no_json, one_json, Fields, no_field, one_field}
use Rattle.vm_labels.specs.Labels.{built, limit_of}
use Rattle.vm_labels.specs.declared.fault.LabelFault.{LabelFault}
use Rattle.vm_labels.specs.declared.fault.LimitFault.{LimitFault}
use Rattle.vm_labels.specs.declared.pair.Pair.{Pair}
use Rattle.vm_labels.specs.declared.row.Row.{Row}
use Rattle.vm_jsonline.specs.Strings.{text_of}
use Rattle.vm_jsonline.specs.declared.line.JsonLine.{JsonLine}
use Rattle.vm_jsonline.specs.declared.line.JsonLine.TheVariants.{Rows, Skipped}

-- f of each item, none where it has none of one
abbrev pub all_of : {A B : Type 0} → (A → Option B) → List A → Option (List B)
all_of f [] = Some []
all_of f (x ∷ xs) = option_and_then (λ y. option_map (λ ys. y ∷ ys) (all_of f xs)) (f x)

-- the one item
abbrev pub once : {A : Type 0} → List A → Option A
once [] = None
once (x ∷ []) = Some x
once (x ∷ y ∷ xs) = None

-- a member of an object
pub record Member : Type 0 where
  pub key : List Piece
  pub value : Json

-- the items of an array
abbrev pub items_of : Jsons → List Json
items_of no_json = []
items_of (one_json x xs) = x ∷ items_of xs

-- the members of an object
abbrev pub members_of : Fields → List Member
members_of no_field = []
members_of (one_field key x fs) = record { key = key; value = x } ∷ members_of fs

-- whether there is a text, and it is this name
abbrev pub is_text : List ℕ → Option (List ℕ) → Bool
is_text name None = false
is_text name (Some text) = bytes_eq text name

-- the values of the members with this key
abbrev pub values_at : List ℕ → List Member → List Json
values_at name [] = []
values_at name (m ∷ ms) = if is_text name (text_of m.key) then m.value ∷ values_at name ms
    else values_at name ms

-- ---- labels

-- the text of a string, where the value is one
abbrev pub string_text : Json → Option (List ℕ)
string_text (string ps) = text_of ps
string_text _ = None

-- the label of a member, where its value is a string
abbrev pub pair_of : Member → Option Pair
pair_of m =
    option_and_then
    (λ name. option_map (λ value. record { name = name; value = value }) (string_text m.value))
    (text_of m.key)

-- the labels of an object of strings
abbrev pub pairs_of : Json → Option (List Pair)
pairs_of (object fs) = all_of pair_of (members_of fs)
pairs_of _ = None

-- the label set of these pairs, none where they make none or one that breaks a limit
abbrev pub within : List Pair → Option LimitFault → Option (List Pair)
within labels None = Some labels
within labels (Some fault) = None

-- the same of pairs that make a label set, or don't
abbrev pub kept : Result (List Pair) LabelFault → Option (List Pair)
kept (Ok labels) = within labels (limit_of labels)
kept (Err fault) = None

-- ---- values and times

-- a number that a sample can have
abbrev pub value_of : Result SampleText NumFault → Option (Option ℤ)
value_of (Ok (Value z)) = Some (Some z)
value_of _ = None

-- a text that says that there is no number
abbrev pub no_value : Result SampleText NumFault → Option (Option ℤ)
no_value (Ok NoNumber) = Some None
no_value _ = None

-- Below, `read` reads the text of a value.

-- what an item says: its value, or that there is none
abbrev pub sample_of : (List ℕ → Result SampleText NumFault) → Json → Option (Option ℤ)
sample_of read null = Some None
sample_of read (number digits) = value_of (read digits)
sample_of read (string ps) = option_and_then (λ text. no_value (read text)) (text_of ps)
sample_of read _ = None

-- what the items of an array say
abbrev pub samples_of : (List ℕ → Result SampleText NumFault) → Json → Option (List (Option ℤ))
samples_of read (array xs) = all_of (sample_of read) (items_of xs)
samples_of read _ = None

-- a time that is at most 2^48 - 1
abbrev pub small_time : ℕ → Option ℕ
small_time time = if nat_lt time (2 ^ 48) then Some time else None

-- digits alone, at most 2^48 - 1
abbrev pub time_in : List ℕ → Option ℕ
time_in digits = if list_all is_ascii_digit digits then small_time (digits_value 10 digits)
    else None

-- the time of a number, where the value is one
abbrev pub time_of : Json → Option ℕ
time_of (number digits) = time_in digits
time_of _ = None

-- the times of an array
abbrev pub times_of : Json → Option (List ℕ)
times_of (array xs) = all_of time_of (items_of xs)
times_of _ = None

-- ---- rows

-- a row for each item that has a value
abbrev pub rows_of : List Pair → List (Option ℤ) → List ℕ → List Row
rows_of labels [] times = []
rows_of labels (v ∷ vs) [] = []
rows_of labels (None ∷ vs) (t ∷ ts) = rows_of labels vs ts
rows_of labels (Some z ∷ vs) (t ∷ ts) =
    record { labels = labels; time = t; value = z } ∷ rows_of labels vs ts

-- the rows of labels, values and times, of which the last two have to be as many
abbrev pub series_rows : List (Option ℤ) → List ℕ → List Pair → Option (List Row)
series_rows values times labels = if length values == length times
    then Some (rows_of labels values times) else None

infixl 10 ◌>>=◌
-- one part and then another, none where one of them is none
abbrev pub ◌>>=◌ : {A B : Type 0} → Option A → (A → Option B) → Option B
o >>= f = option_and_then f o

-- the rows of a line's members
abbrev pub member_rows : (List ℕ → Result SampleText NumFault) → List Member → Option (List Row)
member_rows read ms = do
  metric ← once (values_at (codes "metric") ms)
  values ← once (values_at (codes "values") ms)
  timestamps ← once (values_at (codes "timestamps") ms)
  pairs ← pairs_of metric
  samples ← samples_of read values
  times ← times_of timestamps
  labels ← kept (built pairs)
  series_rows samples times labels

-- the rows of an object
abbrev pub rows_in : (List ℕ → Result SampleText NumFault) → Json → Option (List Row)
rows_in read (object fs) = member_rows read (members_of fs)
rows_in read _ = None

-- ---- the whole line

-- each string is a text: no half of a pair of UTF-16 stands alone
abbrev mutual
  pub has_texts : Json → Bool
  has_texts null = true
  has_texts (boolean b) = true
  has_texts (number digits) = true
  has_texts (string ps) = is_some (text_of ps)
  has_texts (array xs) = have_texts xs
  has_texts (object fs) = fields_have_texts fs

  -- the same of the items of an array
  pub have_texts : Jsons → Bool
  have_texts no_json = true
  have_texts (one_json x xs) = has_texts x && have_texts xs

  -- the same of the members of an object
  pub fields_have_texts : Fields → Bool
  fields_have_texts no_field = true
  fields_have_texts (one_field key x fs) =
      is_some (text_of key) && (has_texts x && fields_have_texts fs)

-- the rows, or else that the line is skipped at 0
abbrev pub or_skipped : Option (List Row) → JsonLine
or_skipped None = Skipped 0
or_skipped (Some rows) = Rows rows

-- what a line comes to whose JSON is known: its rows, or skipped at 0
abbrev pub outcome : (List ℕ → Result SampleText NumFault) → Json → JsonLine
outcome read x = or_skipped (if has_texts x then rows_in read x else None)
