-- What a string stands for. (RFC 8259, sections 7 and 8.2)
use Rattle.std.specs.Prelude.{ℕ, zero, suc, ◌+◌, ◌*◌, ◌%◌, ◌==◌, ◌||◌, nat_lt, Bool, List, [], ◌∷◌, ◌++◌, Option, Some, None, option_map, option_and_then, is_some, if◌then◌else◌, encode_utf8}
use Rattle.std.specs.Char.{digit_value}
use Rattle.std.specs.Int.{is_in_range}
use Rattle.std.specs.Str.{is_utf8}
use Rattle.vm_json.specs.Grammar.{Piece, byte, unit}
use Rattle.vm_jsonline.specs.declared.strings.Pending.{Pending}
use Rattle.vm_jsonline.specs.declared.strings.Pending.TheVariants.{Nothing, Slash, Hexes}
use Rattle.vm_jsonline.specs.declared.strings.Given.{Given}
use Rattle.vm_jsonline.specs.declared.strings.Given.TheVariants as givens

-- the two halves of UTF-16's pairs
abbrev pub is_high : ℕ → Bool
is_high = is_in_range 0xD800 0xDBFF

abbrev pub is_low : ℕ → Bool
is_low = is_in_range 0xDC00 0xDFFF

-- the character of a pair
abbrev pub joined : ℕ → ℕ → ℕ
joined high low = 0x10000 + high % 0x400 * 0x400 + low % 0x400

-- whether a number is that of a character
abbrev pub is_char : ℕ → Bool
is_char c = nat_lt c 0xD800 || is_in_range 0xE000 0x10FFFF c

-- a character in front, where it is one
abbrev pub with_char : ℕ → Option (List ℕ) → Option (List ℕ)
with_char c rest = if is_char c then option_map (λ t. encode_utf8 c ++ t) rest else None

-- the UTF-8 of these pieces, after the first half of a pair or not, and none where half a pair
-- stands alone
abbrev pub text_from : Option ℕ → List Piece → Option (List ℕ)
text_from None [] = Some []
text_from (Some high) [] = None
text_from None (byte b ∷ more) = option_map (λ t. b ∷ t) (text_from None more)
text_from (Some high) (byte b ∷ more) = None
text_from None (unit u ∷ more) = if is_high u then text_from (Some u) more
    else with_char u (text_from None more)
text_from (Some high) (unit u ∷ more) = if is_low u
    then with_char (joined high u) (text_from None more) else None

-- the UTF-8 of these pieces, none where half a pair stands alone
abbrev pub text_of : List Piece → Option (List ℕ)
text_of = text_from None

-- ---- the pieces of what stands between the quotes, as they are read

-- the code unit of a letter after a backslash
abbrev pub letter_unit : ℕ → ℕ
letter_unit b =
    if b == 98 then 8 else (if b == 102 then 12 else (if b == 110 then 10 else (if b == 114 then 13
    else (if b == 116 then 9 else b))))

-- a code unit of 16 bits with one more digit
abbrev pub with_digit : ℕ → ℕ → ℕ
with_digit value b = value % 0x1000 * 16 + digit_value b

-- the pieces of bytes where nothing is open, after a backslash, or within `\uXXXX`
abbrev pub pieces : Pending → List ℕ → List Piece
pieces pending [] = []
pieces Nothing (b ∷ more) = if b == 92 then pieces Slash more else byte b ∷ pieces Nothing more
pieces Slash (b ∷ more) = if b == 117 then pieces (Hexes 3 0) more
    else unit (letter_unit b) ∷ pieces Nothing more
pieces (Hexes zero value) (b ∷ more) = unit (with_digit value b) ∷ pieces Nothing more
pieces (Hexes (suc left) value) (b ∷ more) = pieces (Hexes left (with_digit value b)) more

-- what a byte leads to
abbrev pub given : Given → Option (List ℕ) → Option (List ℕ)
given givens.Nothing rest = rest
given givens.Lone rest = None
given (givens.Byte b) rest = option_map (λ t. b ∷ t) rest
given (givens.Char c) rest = option_map (λ t. encode_utf8 c ++ t) rest

-- what bytes between quotes stand for, none where half a pair stands alone
abbrev pub raw_text : List ℕ → Option (List ℕ)
raw_text raw = text_of (pieces Nothing raw)

-- the bytes, where they are UTF-8
abbrev pub utf8_only : List ℕ → Option (List ℕ)
utf8_only text = if is_utf8 text then Some text else None

-- the text of what stands between the quotes
unfoldable pub string_reading : List ℕ → Option (List ℕ)
string_reading raw = option_and_then utf8_only (raw_text raw)

-- no half of a pair stands alone in these bytes
unfoldable pub is_paired : List ℕ → Bool
is_paired text = is_some (raw_text text)
