-- A machine that reads JSON texts, one byte at a time. What it reads is what `specs/Grammar.antt`
-- says: that is proved.
use Rattle.std.specs.Prelude.{ℕ, ◌==◌, ◌&&◌, nat_lt, Bool, true, false, List, [], ◌∷◌, length, drop, Option, Some, None, is_some, Result, Ok, Err, if◌then◌else◌}
use Rattle.std.specs.Int.{is_in_range}
use Rattle.std.specs.Option.{option_map}
use Rattle.vm_base.specs.Run.{reading}
use Rattle.vm_json.specs.Grammar.{is_space, is_mark, is_plain, is_hex, is_tail, unit_of}
use Rattle.vm_json.specs.declared.nesting.Bracket.{Bracket}
use Rattle.vm_json.specs.declared.nesting.Bracket.TheVariants.{Square, Curly}
use Rattle.vm_json.specs.declared.phase.Symbol.{Symbol}
use Rattle.vm_json.specs.declared.phase.Symbol.TheVariants.{Space, Quote, BeginArray, BeginObject, EndArray, EndObject, Comma, Colon, Minus, Plus, Point, Nought, Digit, Mark, BeginTrue, BeginFalse, BeginNull, Other}
use Rattle.vm_json.specs.declared.phase.Phase.{Phase}
use Rattle.vm_json.specs.declared.phase.Phase.TheVariants.{Wanted, FirstItem, FirstKey, Key, BehindKey, Behind, InString, InNumber, InWord}
use Rattle.vm_json.specs.declared.string_machine.Within.{Within}
use Rattle.vm_json.specs.declared.string_machine.Within.TheVariants.{Plain, Escape, FourHex, ThreeHex, TwoHex, OneHex, OneTail, TwoTails, ThreeTails, BehindE0, BehindED, BehindF0, BehindF4}
use Rattle.vm_json.specs.declared.phase.Digits.{Digits}
use Rattle.vm_json.specs.declared.phase.Digits.TheVariants.{Signed, Zero, Whole, Bare, Fraction, Marked, MarkSigned, Power}
use Rattle.vm_json.specs.declared.phase.Word.{Word}
use Rattle.vm_json.specs.declared.phase.Word.TheVariants.{T, Tr, Tru, F, Fa, Fal, Fals, N, Nu, Nul}

-- the phase, and the brackets that are open, the innermost first
pub record State : Type 0 where
  pub phase : Phase
  pub inside : List Bracket

-- a phase, and the open brackets
abbrev pub at : Phase → List Bracket → State
at phase inside = record { phase = phase; inside = inside }

-- what a byte outside of strings is
abbrev pub symbol_of : ℕ → Symbol
symbol_of b =
    if b == 48 then Nought
    else (if is_in_range 49 57 b then Digit else (if is_space b then Space
    else (if b == 34 then Quote else (if b == 91 then BeginArray else (if b == 123 then BeginObject
    else (if b == 93 then EndArray else (if b == 125 then EndObject else (if b == 44 then Comma
    else (if b == 58 then Colon else (if b == 45 then Minus else (if b == 43 then Plus
    else (if b == 46 then Point else (if is_mark b then Mark else (if b == 116 then BeginTrue
    else (if b == 102 then BeginFalse else (if b == 110 then BeginNull else Other))))))))))))))))

-- a thing, where the test passes
abbrev pub only : {A : Type 0} → Bool → A → Option A
only test a = if test then Some a else None

-- ---- strings

-- after a byte that begins a character above ASCII
abbrev pub behind_lead : ℕ → Option Within
behind_lead b =
    if is_in_range 0xC2 0xDF b then Some OneTail
    else (if b == 0xE0 then Some BehindE0 else (if b == 0xED then Some BehindED
    else (if is_in_range 0xE1 0xEF b then Some TwoTails else (if b == 0xF0 then Some BehindF0
    else (if is_in_range 0xF1 0xF3 b then Some ThreeTails
    else (if b == 0xF4 then Some BehindF4 else None))))))

-- after a byte between characters
abbrev pub behind_plain : ℕ → Option Within
behind_plain b =
    if is_plain b then Some Plain else (if b == 92 then Some Escape else behind_lead b)

-- after the byte that follows a backslash
abbrev pub behind_escape : ℕ → Option Within
behind_escape b = if b == 117 then Some FourHex else only (is_some (unit_of b)) Plain

-- where a byte within a string leads to
abbrev pub next_within : Within → ℕ → Option Within
next_within Plain b = behind_plain b
next_within Escape b = behind_escape b
next_within FourHex b = only (is_hex b) ThreeHex
next_within ThreeHex b = only (is_hex b) TwoHex
next_within TwoHex b = only (is_hex b) OneHex
next_within OneHex b = only (is_hex b) Plain
next_within OneTail b = only (is_tail b) Plain
next_within TwoTails b = only (is_tail b) OneTail
next_within ThreeTails b = only (is_tail b) TwoTails
next_within BehindE0 b = only (is_in_range 0xA0 0xBF b) OneTail
next_within BehindED b = only (is_in_range 0x80 0x9F b) OneTail
next_within BehindF0 b = only (is_in_range 0x90 0xBF b) TwoTails
next_within BehindF4 b = only (is_in_range 0x80 0x8F b) TwoTails

-- after the last quote of a key or a value
abbrev pub behind_string : Bool → Phase
behind_string true = BehindKey
behind_string false = Behind

-- whether a byte is the last quote
abbrev pub is_last : Within → ℕ → Bool
is_last Plain b = b == 34
is_last _ b = false

-- after a byte of a key or of a value
abbrev pub in_string : Bool → Within → ℕ → Option Phase
in_string key w b =
    if is_last w b then Some (behind_string key) else option_map (InString key) (next_within w b)

-- ---- numbers and words

-- how far a number is read after a symbol, none where it doesn't go on with it
abbrev pub in_digits : Symbol → Digits → Option Digits
in_digits Nought Signed = Some Zero
in_digits Nought Whole = Some Whole
in_digits Nought Bare = Some Fraction
in_digits Nought Fraction = Some Fraction
in_digits Nought Marked = Some Power
in_digits Nought MarkSigned = Some Power
in_digits Nought Power = Some Power
in_digits Digit Signed = Some Whole
in_digits Digit Whole = Some Whole
in_digits Digit Bare = Some Fraction
in_digits Digit Fraction = Some Fraction
in_digits Digit Marked = Some Power
in_digits Digit MarkSigned = Some Power
in_digits Digit Power = Some Power
in_digits Point Zero = Some Bare
in_digits Point Whole = Some Bare
in_digits Mark Zero = Some Marked
in_digits Mark Whole = Some Marked
in_digits Mark Fraction = Some Marked
in_digits Plus Marked = Some MarkSigned
in_digits Minus Marked = Some MarkSigned
in_digits _ _ = None

-- a number may end here
abbrev pub may_end : Digits → Bool
may_end Zero = true
may_end Whole = true
may_end Fraction = true
may_end Power = true
may_end _ = false

-- after the next letter of `true`, `false` or `null`
abbrev pub in_word : Word → ℕ → Option Phase
in_word T b = only (b == 114) (InWord Tr)
in_word Tr b = only (b == 117) (InWord Tru)
in_word Tru b = only (b == 101) Behind
in_word F b = only (b == 97) (InWord Fa)
in_word Fa b = only (b == 108) (InWord Fal)
in_word Fal b = only (b == 115) (InWord Fals)
in_word Fals b = only (b == 101) Behind
in_word N b = only (b == 117) (InWord Nu)
in_word Nu b = only (b == 108) (InWord Nul)
in_word Nul b = only (b == 108) Behind

-- ---- values

-- one bracket more, where 100 are not open yet
abbrev pub opened : Phase → Bracket → List Bracket → Option State
opened phase bracket inside = only (nat_lt (length inside) 100) (at phase (bracket ∷ inside))

-- where a value is wanted
abbrev pub wanted : List Bracket → Symbol → Option State
wanted inside Space = Some (at Wanted inside)
wanted inside Quote = Some (at (InString false Plain) inside)
wanted inside BeginArray = opened FirstItem Square inside
wanted inside BeginObject = opened FirstKey Curly inside
wanted inside Minus = Some (at (InNumber Signed) inside)
wanted inside Nought = Some (at (InNumber Zero) inside)
wanted inside Digit = Some (at (InNumber Whole) inside)
wanted inside BeginTrue = Some (at (InWord T) inside)
wanted inside BeginFalse = Some (at (InWord F) inside)
wanted inside BeginNull = Some (at (InWord N) inside)
wanted inside _ = None

-- after a value within this bracket
abbrev pub behind_open : Bracket → List Bracket → Symbol → Option State
behind_open Square inside Comma = Some (at Wanted (Square ∷ inside))
behind_open Square inside EndArray = Some (at Behind inside)
behind_open Curly inside Comma = Some (at Key (Curly ∷ inside))
behind_open Curly inside EndObject = Some (at Behind inside)
behind_open _ inside _ = None

-- after a value
abbrev pub behind : List Bracket → Symbol → Option State
behind inside Space = Some (at Behind inside)
behind [] _ = None
behind (bracket ∷ inside) symbol = behind_open bracket inside symbol

-- after the bracket that opens an array
abbrev pub first_item : List Bracket → Symbol → Option State
first_item inside Space = Some (at FirstItem inside)
first_item inside EndArray = Some (at Behind (drop 1 inside))
first_item inside symbol = wanted inside symbol

-- where a key is wanted
abbrev pub key : List Bracket → Symbol → Option State
key inside Space = Some (at Key inside)
key inside Quote = Some (at (InString true Plain) inside)
key inside _ = None

-- after the bracket that opens an object
abbrev pub first_key : List Bracket → Symbol → Option State
first_key inside Space = Some (at FirstKey inside)
first_key inside EndObject = Some (at Behind (drop 1 inside))
first_key inside Quote = Some (at (InString true Plain) inside)
first_key inside _ = None

-- after a key
abbrev pub behind_key : List Bracket → Symbol → Option State
behind_key inside Space = Some (at BehindKey inside)
behind_key inside Colon = Some (at Wanted inside)
behind_key inside _ = None

-- a number goes on, or ends and something else follows
abbrev pub in_number : Digits → List Bracket → Symbol → Option Digits → Option State
in_number digits inside symbol (Some next) = Some (at (InNumber next) inside)
in_number digits inside symbol None = if may_end digits then behind inside symbol else None

-- where a byte leads to, by the phase
abbrev pub by_phase : Phase → List Bracket → ℕ → Option State
by_phase Wanted inside b = wanted inside (symbol_of b)
by_phase FirstItem inside b = first_item inside (symbol_of b)
by_phase FirstKey inside b = first_key inside (symbol_of b)
by_phase Key inside b = key inside (symbol_of b)
by_phase BehindKey inside b = behind_key inside (symbol_of b)
by_phase Behind inside b = behind inside (symbol_of b)
by_phase (InString a_key w) inside b = option_map (λ phase. at phase inside) (in_string a_key w b)
by_phase (InNumber digits) inside b =
    in_number digits inside (symbol_of b) (in_digits (symbol_of b) digits)
by_phase (InWord word) inside b = option_map (λ phase. at phase inside) (in_word word b)

-- where a byte leads to from this state
abbrev pub step : State → ℕ → Option State
step s b = by_phase s.phase s.inside b

-- the text may end here
abbrev pub ends : Phase → Bool
ends Behind = true
ends (InNumber digits) = may_end digits
ends _ = false

-- none where a text may not end in this state
abbrev pub final : State → Option (Unit {0})
final s = only (ends s.phase && (length s.inside == 0)) tt

-- before the first byte
abbrev pub start : State
start = at Wanted []

-- a text that is read to its end, or the place where it is not
unfoldable pub json_reading : List ℕ → Result (Unit {0}) ℕ
json_reading text = reading step final start text

-- the place of a reading that stops, none of one that doesn't
abbrev pub wrong_in : Result (Unit {0}) ℕ → Option ℕ
wrong_in (Ok whole) = None
wrong_in (Err at) = Some at

-- the place where a text is not JSON
unfoldable pub wrong_place : List ℕ → Option ℕ
wrong_place text = wrong_in (json_reading text)
