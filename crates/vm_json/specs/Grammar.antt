-- JSON texts. (RFC 8259; the section numbers are its own)
--
-- Most words here say what stands at the front of a text, and hand on the rest, which stands after
-- it.
use Rattle.std.specs.Prelude.{◌≡◌, ℕ, suc, ◌+◌, ◌*◌, ◌<◌, ◌==◌, ◌&&◌, ◌||◌, not, Bool, true, false, List, [], ◌∷◌, ◌++◌, Option, Some, None, if◌then◌else◌}
use Rattle.std.specs.Char.{is_ascii_digit, digit_value}
use Rattle.std.specs.Int.{is_in_range}
use Rattle.std.specs.List.{AllByRecursion}

-- what a string is made of: a byte that stands for itself, or a code unit of UTF-16 that an escape
-- stands for
pub data Piece : Type 0 where
  byte : ℕ → Piece
  unit : ℕ → Piece

-- what a text says: numbers as they are spelled, strings by their pieces
mutual
  pub data Json : Type 0 where
    null : Json
    boolean : Bool → Json
    number : List ℕ → Json
    string : List Piece → Json
    array : Jsons → Json
    object : Fields → Json

  -- the items of an array, in order
  pub data Jsons : Type 0 where
    no_json : Jsons
    one_json : Json → Jsons → Jsons

  -- the members of an object, in order: each a key and a value
  pub data Fields : Type 0 where
    no_field : Fields
    one_field : List Piece → Json → Fields → Fields

-- ---- section 2: white space

-- a space, a tab, a line feed, a carriage return
abbrev pub is_space : ℕ → Bool
is_space b = b == 32 || b == 9 || b == 10 || b == 13

-- any number of these, and the rest
pub data Spaces : List ℕ → List ℕ → Type 0 where
  no_space : {rest : List ℕ} → Spaces rest rest
  a_space : {text rest : List ℕ} (b : ℕ) → is_space b ≡ true → Spaces text rest
      → Spaces (b ∷ text) rest

-- ---- section 6: numbers

-- a digit, and any number of digits
abbrev pub IsDigit : ℕ → Type 0
IsDigit b = is_ascii_digit b ≡ true

abbrev pub IsDigits : List ℕ → Type 0
IsDigits = AllByRecursion IsDigit

-- `0`, or digits that begin with another one
pub data IsWhole : List ℕ → Type 0 where
  nought : IsWhole (48 ∷ [])
  whole : {ds : List ℕ} (b : ℕ) → is_in_range 49 57 b ≡ true → IsDigits ds → IsWhole (b ∷ ds)

-- a point and a digit or more, or nothing
pub data IsFraction : List ℕ → Type 0 where
  no_fraction : IsFraction []
  fraction : {ds : List ℕ} (b : ℕ) → IsDigit b → IsDigits ds → IsFraction (46 ∷ b ∷ ds)

-- `e` or `E`
abbrev pub is_mark : ℕ → Bool
is_mark b = b == 101 || b == 69

-- `+` or `-`
abbrev pub is_sign : ℕ → Bool
is_sign b = b == 43 || b == 45

-- a mark, an optional sign and a digit or more, or nothing
pub data IsExponent : List ℕ → Type 0 where
  no_exponent : IsExponent []
  exponent : {ds : List ℕ} (mark b : ℕ) → is_mark mark ≡ true → IsDigit b → IsDigits ds
      → IsExponent (mark ∷ b ∷ ds)
  signed_exponent : {ds : List ℕ} (mark sign b : ℕ) → is_mark mark ≡ true → is_sign sign ≡ true
      → IsDigit b → IsDigits ds → IsExponent (mark ∷ sign ∷ b ∷ ds)

-- the whole text is a number
pub data IsNumber : List ℕ → Type 0 where
  positive : (w f e : List ℕ) → IsWhole w → IsFraction f → IsExponent e → IsNumber (w ++ (f ++ e))
  negative : (w f e : List ℕ) → IsWhole w → IsFraction f → IsExponent e
      → IsNumber (45 ∷ (w ++ (f ++ e)))

-- ---- section 7: strings

-- ASCII without control characters, the quote and the backslash
abbrev pub is_plain : ℕ → Bool
is_plain b = is_in_range 0x20 0x7F b && not (b == 34) && not (b == 92)

-- a later byte of a character above ASCII
abbrev pub is_tail : ℕ → Bool
is_tail = is_in_range 0x80 0xBF

-- the bytes of one character above ASCII. (Unicode 15.0, table 3-7)
pub data IsWide : List ℕ → Type 0 where
  two : (a b : ℕ) → is_in_range 0xC2 0xDF a ≡ true → is_tail b ≡ true → IsWide (a ∷ b ∷ [])
  three_e0 : (b c : ℕ) → is_in_range 0xA0 0xBF b ≡ true → is_tail c ≡ true
      → IsWide (0xE0 ∷ b ∷ c ∷ [])
  three_low : (a b c : ℕ) → is_in_range 0xE1 0xEC a ≡ true → is_tail b ≡ true → is_tail c ≡ true
      → IsWide (a ∷ b ∷ c ∷ [])
  three_ed : (b c : ℕ) → is_in_range 0x80 0x9F b ≡ true → is_tail c ≡ true
      → IsWide (0xED ∷ b ∷ c ∷ [])
  three_high : (a b c : ℕ) → is_in_range 0xEE 0xEF a ≡ true → is_tail b ≡ true → is_tail c ≡ true
      → IsWide (a ∷ b ∷ c ∷ [])
  four_f0 : (b c d : ℕ) → is_in_range 0x90 0xBF b ≡ true → is_tail c ≡ true → is_tail d ≡ true
      → IsWide (0xF0 ∷ b ∷ c ∷ d ∷ [])
  four : (a b c d : ℕ) → is_in_range 0xF1 0xF3 a ≡ true → is_tail b ≡ true → is_tail c ≡ true
      → is_tail d ≡ true → IsWide (a ∷ b ∷ c ∷ d ∷ [])
  four_f4 : (b c d : ℕ) → is_in_range 0x80 0x8F b ≡ true → is_tail c ≡ true → is_tail d ≡ true
      → IsWide (0xF4 ∷ b ∷ c ∷ d ∷ [])

-- the code unit of a letter after a backslash: `"`, `\`, `/`, `b`, `f`, `n`, `r` and `t`
abbrev pub unit_of : ℕ → Option ℕ
unit_of b =
    if b == 34 || b == 92 || b == 47 then Some b
    else (if b == 98 then Some 8 else (if b == 102 then Some 12 else (if b == 110 then Some 10
    else (if b == 114 then Some 13 else (if b == 116 then Some 9 else None)))))

-- a hexadecimal digit and its value
abbrev pub is_hex : ℕ → Bool
is_hex b = is_ascii_digit b || is_in_range 65 70 b || is_in_range 97 102 b

abbrev pub hex_value : ℕ → ℕ
hex_value b = digit_value b

-- the code unit of four hexadecimal digits
abbrev pub hex_unit : ℕ → ℕ → ℕ → ℕ → ℕ
hex_unit a b c d = ((hex_value a * 16 + hex_value b) * 16 + hex_value c) * 16 + hex_value d

-- bytes that stand for themselves, before other pieces
abbrev pub bytes : List ℕ → List Piece → List Piece
bytes [] ps = ps
bytes (b ∷ bs) ps = byte b ∷ bytes bs ps

-- what stands after a string's first quote, its last quote, and the rest
pub data Chars : List ℕ → List ℕ → List Piece → Type 0 where
  last_quote : {rest : List ℕ} → Chars (34 ∷ rest) rest []
  plain : {text rest : List ℕ} {ps : List Piece} (b : ℕ) → is_plain b ≡ true → Chars text rest ps
      → Chars (b ∷ text) rest (byte b ∷ ps)
  wide : {text rest : List ℕ} {ps : List Piece} (c : List ℕ) → IsWide c → Chars text rest ps
      → Chars (c ++ text) rest (bytes c ps)
  letter : {text rest : List ℕ} {ps : List Piece} (b u : ℕ) → unit_of b ≡ Some u
      → Chars text rest ps → Chars (92 ∷ b ∷ text) rest (unit u ∷ ps)
  hex : {text rest : List ℕ} {ps : List Piece} (a b c d : ℕ) → is_hex a ≡ true → is_hex b ≡ true
      → is_hex c ≡ true → is_hex d ≡ true → Chars text rest ps
      → Chars (92 ∷ 117 ∷ a ∷ b ∷ c ∷ d ∷ text) rest (unit (hex_unit a b c d) ∷ ps)

-- ---- sections 3 to 5: values, objects and arrays

-- how many brackets may be open at a place
abbrev pub deepest : ℕ
deepest = 100

-- at n the number of brackets that are open around it
mutual
  -- one value, and after it
  pub data Value : ℕ → List ℕ → List ℕ → Json → Type 0 where
    a_null : {n : ℕ} {rest : List ℕ} → Value n (110 ∷ 117 ∷ 108 ∷ 108 ∷ rest) rest null
    a_true : {n : ℕ} {rest : List ℕ} → Value n (116 ∷ 114 ∷ 117 ∷ 101 ∷ rest) rest (boolean true)
    a_false : {n : ℕ} {rest : List ℕ}
        → Value n (102 ∷ 97 ∷ 108 ∷ 115 ∷ 101 ∷ rest) rest (boolean false)
    a_number : {n : ℕ} {rest : List ℕ} (digits : List ℕ) → IsNumber digits
        → Value n (digits ++ rest) rest (number digits)
    a_string : {n : ℕ} {text rest : List ℕ} {ps : List Piece} → Chars text rest ps
        → Value n (34 ∷ text) rest (string ps)
    an_array : {n : ℕ} {text rest : List ℕ} {xs : Jsons} → n < deepest → Items (suc n) text rest xs
        → Value n (91 ∷ text) rest (array xs)
    an_object : {n : ℕ} {text rest : List ℕ} {fs : Fields} → n < deepest
        → Members (suc n) text rest fs → Value n (123 ∷ text) rest (object fs)

  -- one value within an array, and after it
  pub data Item : ℕ → List ℕ → List ℕ → Json → Type 0 where
    an_item : {n : ℕ} {text start rest : List ℕ} {x : Json} → Spaces text start
        → Value n start rest x → Item n text rest x

  -- what stands after `[`, with `]`
  pub data Items : ℕ → List ℕ → List ℕ → Jsons → Type 0 where
    no_items : {n : ℕ} {text rest : List ℕ} → Spaces text (93 ∷ rest) → Items n text rest no_json
    some_items : {n : ℕ} {text rest : List ℕ} {xs : Jsons} → ItemList n text rest xs
        → Items n text rest xs

  -- one item and more of them, with `]`
  pub data ItemList : ℕ → List ℕ → List ℕ → Jsons → Type 0 where
    item_list : {n : ℕ} {text behind rest : List ℕ} {x : Json} {xs : Jsons} → Item n text behind x
        → MoreItems n behind rest xs → ItemList n text rest (one_json x xs)

  -- what stands after an item, with `]`
  pub data MoreItems : ℕ → List ℕ → List ℕ → Jsons → Type 0 where
    no_more_items : {n : ℕ} {text rest : List ℕ} → Spaces text (93 ∷ rest)
        → MoreItems n text rest no_json
    more_items : {n : ℕ} {text comma rest : List ℕ} {xs : Jsons} → Spaces text (44 ∷ comma)
        → ItemList n comma rest xs → MoreItems n text rest xs

  -- a string, a colon and a value
  pub data Member : ℕ → List ℕ → List ℕ → List Piece → Json → Type 0 where
    a_member : {n : ℕ} {text key colon mark rest : List ℕ} {ps : List Piece} {x : Json}
        → Spaces text (34 ∷ key) → Chars key colon ps → Spaces colon (58 ∷ mark)
        → Item n mark rest x → Member n text rest ps x

  -- what stands after `{`, with `}`
  pub data Members : ℕ → List ℕ → List ℕ → Fields → Type 0 where
    no_members : {n : ℕ} {text rest : List ℕ} → Spaces text (125 ∷ rest)
        → Members n text rest no_field
    some_members : {n : ℕ} {text rest : List ℕ} {fs : Fields} → MemberList n text rest fs
        → Members n text rest fs

  -- one member and more of them, with `}`
  pub data MemberList : ℕ → List ℕ → List ℕ → Fields → Type 0 where
    member_list : {n : ℕ} {text behind rest : List ℕ} {ps : List Piece} {x : Json} {fs : Fields}
        → Member n text behind ps x → MoreMembers n behind rest fs
        → MemberList n text rest (one_field ps x fs)

  -- what stands after a member, with `}`
  pub data MoreMembers : ℕ → List ℕ → List ℕ → Fields → Type 0 where
    no_more_members : {n : ℕ} {text rest : List ℕ} → Spaces text (125 ∷ rest)
        → MoreMembers n text rest no_field
    more_members : {n : ℕ} {text comma rest : List ℕ} {fs : Fields} → Spaces text (44 ∷ comma)
        → MemberList n comma rest fs → MoreMembers n text rest fs

-- a JSON text and what it says: one value with white space around it
pub data Spells : List ℕ → Json → Type 0 where
  spells : {text behind : List ℕ} {x : Json} → Item 0 text behind x → Spaces behind []
      → Spells text x

-- the text is a JSON text
abbrev pub IsJson : List ℕ → Type 0
IsJson text = (x : Json) × Spells text x
