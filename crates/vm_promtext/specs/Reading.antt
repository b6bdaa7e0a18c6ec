-- A line read from left to right. A fault is the number of bytes from the first wrong place on.
use Rattle.std.specs.Prelude.{ℕ, zero, suc, ◌+◌, ◌-◌, ◌==◌, ◌||◌, nat_lt, Bool, true, false, List, [], ◌∷◌, ◌++◌, length, take, drop, slice_index, Option, Some, None, Result, Ok, Err, if◌then◌else◌}
use Rattle.std.specs.Char.{is_ascii_digit}
use Rattle.std.specs.List.{prefix_len, position_or_len}
use Rattle.std.specs.Option.{option_map}
use Rattle.std.specs.Str.{is_utf8}
use Rattle.vm_decimal.specs.declared.sample_text.NumFault.{NumFault}
use Rattle.vm_decimal.specs.declared.sample_text.NumFault.TheVariants.{NotANumber, TooWide}
use Rattle.vm_decimal.specs.declared.sample_text.SampleText.{SampleText}
use Rattle.vm_decimal.specs.SampleReading.{sample_reading}
use Rattle.vm_labels.specs.Labels.{built}
use Rattle.vm_labels.specs.Name.{name_len}
use Rattle.vm_labels.specs.declared.pair.Pair.{Pair}
use Rattle.vm_promtext.specs.Grammar.{is_blank, name_pair}
use Rattle.vm_promtext.specs.Outcome.{time_of, kept, with_value}
use Rattle.vm_promtext.specs.Quoted.{unescaped}
use Rattle.vm_promtext.specs.Utf8.{readable, nothing}
use Rattle.vm_promtext.specs.declared.line.Line.{Line}
use Rattle.vm_promtext.specs.declared.line.Line.TheVariants.{Nothing, Skipped}

infixl 10 ◌>>=◌
-- one reading and then another, which begins where that ends; a fault ends both
abbrev pub ◌>>=◌ : {A B : Type 0} → Result A ℕ → (A → Result B ℕ) → Result B ℕ
(Ok x) >>= f = f x
(Err left) >>= f = Err left

-- what stands after any blanks at the front
abbrev pub behind_blanks : List ℕ → List ℕ
behind_blanks [] = []
behind_blanks (byte ∷ more) = if is_blank byte then behind_blanks more else byte ∷ more

-- what stands after this byte
abbrev pub mark_reading : ℕ → List ℕ → Result (List ℕ) ℕ
mark_reading mark text = if slice_index text 0 == mark then Ok (drop 1 text) else Err (length text)

-- a name and the rest
abbrev pub name_reading : List ℕ → Result (List ℕ × List ℕ) ℕ
name_reading text =
    if name_len text == 0 then Err (length text)
    else Ok (take (name_len text) text, drop (name_len text) text)

-- the place of the quote that ends a value; `escaped` says whether a backslash stands before it
abbrev pub quote_place : Bool → List ℕ → Option ℕ
quote_place escaped [] = None
quote_place true (byte ∷ more) = option_map suc (quote_place false more)
quote_place false (byte ∷ more) =
    if byte == 34 then Some 0 else option_map suc (quote_place (byte == 92) more)

-- the value before the quote at this place and the rest
abbrev pub value_before : List ℕ → Option ℕ → Result (List ℕ × List ℕ) ℕ
value_before text None = Err (length text - readable nothing text)
value_before text (Some at) =
    if is_utf8 (take at text) then Ok (take at text, drop (at + 1) text)
    else Err (length text - readable nothing (take at text))

-- a value as it stands after its opening quote, and the rest
unfoldable pub quoted_reading : List ℕ → Result (List ℕ × List ℕ) ℕ
quoted_reading text = value_before text (quote_place false text)

-- a pair's name, its value as it stands, and the rest after any blanks
pub record PairRead : Type 0 where
  pub name : List ℕ
  pub raw : List ℕ
  pub rest : List ℕ

-- the pair at the front of a text
unfoldable pub pair_reading : List ℕ → Result PairRead ℕ
pair_reading text = do
  name ← name_reading text
  equals ← mark_reading 61 (behind_blanks name.1)
  quote ← mark_reading 34 (behind_blanks equals)
  value ← quoted_reading quote
  Ok (record { name = name.0; raw = value.0; rest = behind_blanks value.1 })

-- the pairs so far, whether the brace is closed, and the rest
pub record Turn : Type 0 where
  pub pairs : List Pair
  pub closed : Bool
  pub rest : List ℕ

-- what stands after a pair: a comma or the closing brace
abbrev pub behind_pair : List Pair → List ℕ → Result Turn ℕ
behind_pair pairs text =
    if slice_index text 0 == 44
    then Ok (record { pairs = pairs; closed = false; rest = drop 1 text })
    else (if slice_index text 0 == 125
    then Ok (record { pairs = pairs; closed = true; rest = drop 1 text })
    else Err (length text))

-- the closing brace or one more pair
unfoldable pub turn_reading : List Pair → List ℕ → Result Turn ℕ
turn_reading before text =
    let rest = behind_blanks text in
    if slice_index rest 0 == 125
    then Ok (record { pairs = before; closed = true; rest = drop 1 rest })
    else pair_reading rest >>= (λ pair.
    behind_pair (before ++ record { name = pair.name; value = unescaped pair.raw } ∷ []) pair.rest)

-- the pairs of braces, with those before, and the rest; in at most so many steps
unfoldable pub braces_reading : ℕ → List Pair → List ℕ → Result (List Pair × List ℕ) ℕ
braces_reading zero before text = Err (length text)
braces_reading (suc more) before text = turn_reading before text >>= (λ turn.
    if turn.closed then Ok (turn.pairs, turn.rest) else braces_reading more turn.pairs turn.rest)

-- the labels after a name, with those before, and the rest
unfoldable pub labels_reading : List Pair → List ℕ → Result (List Pair × List ℕ) ℕ
labels_reading before text =
    let rest = behind_blanks text in
    if slice_index rest 0 == 123
    then braces_reading (length (drop 1 rest)) before (drop 1 rest) >>= (λ braces.
    Ok (braces.0, behind_blanks braces.1))
    else (if nat_lt (length rest) (length text) then Ok (before, rest) else Err (length rest))

-- how many bytes stand before the first blank
abbrev pub before_blank : List ℕ → ℕ
before_blank = position_or_len is_blank

-- what a value's text says, unless it is none, and its length
abbrev pub unless_broken : List ℕ → Result SampleText NumFault
    → Result (Result SampleText NumFault × ℕ) ℕ
unless_broken text (Err (NotANumber at)) = Err (length text - at)
unless_broken text (Err TooWide) = Ok (Err TooWide, before_blank text)
unless_broken text (Ok number) = Ok (Ok number, before_blank text)

-- the value at the front, which ends before the first blank, and its length
unfoldable pub value_reading : List ℕ → Result (Result SampleText NumFault × ℕ) ℕ
value_reading text = unless_broken text (sample_reading (take (before_blank text) text))

-- a time's digits and the number of bytes from the first one on
abbrev pub until_end : List ℕ → List ℕ → Result (List ℕ × ℕ) ℕ
until_end text end =
    if length end == 0 then Ok (take (prefix_len is_ascii_digit text) text, length text)
    else Err (length end)

-- the digits at the front, where only blanks stand after them
abbrev pub digits_reading : List ℕ → Result (List ℕ × ℕ) ℕ
digits_reading text =
    if prefix_len is_ascii_digit text == 0 then Err (length text)
    else until_end text (behind_blanks (drop (prefix_len is_ascii_digit text) text))

-- the time after a value, or that none is written
unfoldable pub time_reading : List ℕ → Result (List ℕ × ℕ) ℕ
time_reading text =
    let rest = behind_blanks text in
    if length rest == 0 then Ok ([], 0) else digits_reading rest

-- the line of which this text, after any blanks, is a row
unfoldable pub row_reading : ℕ → List ℕ → List ℕ → Result Line ℕ
row_reading now line text = do
  name ← name_reading text
  labels ← labels_reading (name_pair name.0 ∷ []) name.1
  value ← value_reading labels.1
  time ← time_reading (drop value.1 labels.1)
  Ok (with_value value.0 (length line - length labels.1) (length line - time.1)
      (time_of now time.0) (kept (built labels.0)))

-- a line, which says nothing or writes a row
unfoldable pub line_reading : ℕ → List ℕ → Result Line ℕ
line_reading now line =
    let text = behind_blanks line in
    if length text == 0 || slice_index text 0 == 35 then Ok Nothing else row_reading now line text

-- a fault as the place at which the line is skipped
abbrev pub or_skipped : ℕ → Result Line ℕ → Line
or_skipped len (Ok line) = line
or_skipped len (Err left) = Skipped (len - left)

-- what a line comes to that is read at the time `now`
unfoldable pub reading : ℕ → List ℕ → Line
reading now line =
    if nat_lt 4194304 (length line) then Skipped 4194304
    else or_skipped (length line) (line_reading now line)
