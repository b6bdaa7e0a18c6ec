-- The parts of a JSON text are found where they lie.
use Rattle.std.proofs.Common.{◌≡◌, ℕ, suc, zero, ◌<◌, ◌≤◌, Bool, true, false, List, [], ◌∷◌, ◌++◌, length, Some, None, refl, ap, sym, subst, ◌∙◌, arith, length-append}
use Rattle.std.specs.Prelude.{◌==◌, ◌||◌, slice_index}
use Rattle.std.specs.Int.{is_in_range}
use Rattle.std.specs.List.{AllByRecursion}
use Rattle.std.proofs.lemmas.Bool.Decides.{nat_tests}
use Rattle.vm_json.specs.Grammar.{is_space, is_mark, is_sign, IsDigit, IsDigits, IsWhole, nought, whole, IsFraction, no_fraction, fraction, IsExponent, no_exponent, exponent, signed_exponent, IsNumber, positive, negative, Chars, Piece, Json, Jsons, no_json, one_json, Fields, no_field, one_field, Spaces, no_space, a_space, Value, a_null, a_true, a_false, a_number, a_string, an_array, an_object, Item, an_item, Items, no_items, some_items, ItemList, item_list, MoreItems, no_more_items, more_items, Member, a_member, Members, no_members, some_members, MemberList, member_list, MoreMembers, no_more_members, more_members}
use Rattle.vm_jsonline.specs.Parts.{behind_spaces, string_at, is_opening, is_closing, behind_value, behind_comma, next_start, next_item, next_member, items, members, Part}
use Rattle.vm_jsonline.specs.Reading.{is_number_byte}
use Rattle.vm_jsonline.specs.Strings.{string_reading, text_of}
use Rattle.vm_jsonline.specs.declared.parts.Mode.TheVariants.{Outside, Inside}
use Rattle.vm_jsonline.proofs.Loops.{items_stop, items_on, members_stop, members_on}
use Rattle.vm_jsonline.proofs.StringLaws.{StringAt, chars_at, string_is, string_there, body_behind}

-- ---- numbers byte by byte

abbrev pub IsNumberByte : ℕ → Type 0
IsNumberByte b = is_number_byte b ≡ true

abbrev pub AreNumberBytes : List ℕ → Type 0
AreNumberBytes = AllByRecursion IsNumberByte

both : (xs ys : List ℕ) → AreNumberBytes xs → AreNumberBytes ys → AreNumberBytes (xs ++ ys)
both [] ys all more = more
both (x ∷ xs) ys all more = (all.0, both xs ys all.1 more)

digit_byte : (b : ℕ) → IsDigit b → IsNumberByte b
digit_byte b is = rw is refl

mark_byte : (b : ℕ) → is_mark b ≡ true → IsNumberByte b
mark_byte b is = grind (arith, nat_tests)

sign_byte : (b : ℕ) → is_sign b ≡ true → IsNumberByte b
sign_byte b is = grind (arith, nat_tests)

first_byte : (b : ℕ) → is_in_range 49 57 b ≡ true → IsDigit b
first_byte b is = grind (arith, nat_tests)

digits_bytes : (ds : List ℕ) → IsDigits ds → AreNumberBytes ds
digits_bytes [] all = tt
digits_bytes (b ∷ ds) all = (digit_byte b all.0, digits_bytes ds all.1)

whole_bytes : (w : List ℕ) → IsWhole w → AreNumberBytes w
whole_bytes _ nought = (refl, tt)
whole_bytes _ (whole {ds = ds} b first all) =
    (digit_byte b (first_byte b first), digits_bytes ds all)

fraction_bytes : (f : List ℕ) → IsFraction f → AreNumberBytes f
fraction_bytes _ no_fraction = tt
fraction_bytes _ (fraction {ds = ds} b first all) =
    (refl, (digit_byte b first, digits_bytes ds all))

exponent_bytes : (e : List ℕ) → IsExponent e → AreNumberBytes e
exponent_bytes _ no_exponent = tt
exponent_bytes _ (exponent {ds = ds} mark b is first all) =
    (mark_byte mark is, (digit_byte b first, digits_bytes ds all))
exponent_bytes _ (signed_exponent {ds = ds} mark sign b is is_sign first all) =
    (mark_byte mark is, (sign_byte sign is_sign, (digit_byte b first, digits_bytes ds all)))

parts_bytes : (w f e : List ℕ) → IsWhole w → IsFraction f → IsExponent e
    → AreNumberBytes (w ++ (f ++ e))
parts_bytes w f e a b c =
    both w (f ++ e) (whole_bytes w a) (both f e (fraction_bytes f b) (exponent_bytes e c))

pub number_bytes : (digits : List ℕ) → IsNumber digits → AreNumberBytes digits
number_bytes _ (positive w f e a b c) = parts_bytes w f e a b c
number_bytes _ (negative w f e a b c) = (refl, parts_bytes w f e a b c)

-- ---- after a value

-- a byte of numbers and words, and white space, are passed
record IsPassed (b : ℕ) : Type 0 where
  pub no_comma : (b == 44) ≡ false
  pub no_closing : is_closing b ≡ false
  pub no_quote : (b == 34) ≡ false
  pub no_opening : is_opening b ≡ false

passed : (d b : ℕ) (more : List ℕ) → IsPassed b
    → behind_value d Outside (b ∷ more) ≡ behind_value d Outside more
passed zero b more p = rw (p.no_comma, p.no_closing, p.no_quote, p.no_opening) refl
passed (suc d) b more p = rw (p.no_closing, p.no_quote, p.no_opening) refl

number_passed : (b : ℕ) → IsNumberByte b → IsPassed b
number_passed b is =
    record {
      no_comma = grind (arith, nat_tests);
      no_closing = grind (arith, nat_tests);
      no_quote = grind (arith, nat_tests);
      no_opening = grind (arith, nat_tests);
    }

space_passed : (b : ℕ) → is_space b ≡ true → IsPassed b
space_passed b is =
    record {
      no_comma = grind (arith, nat_tests);
      no_closing = grind (arith, nat_tests);
      no_quote = grind (arith, nat_tests);
      no_opening = grind (arith, nat_tests);
    }

numbers_passed : (d : ℕ) (digits rest : List ℕ) → AreNumberBytes digits
    → behind_value d Outside (digits ++ rest) ≡ behind_value d Outside rest
numbers_passed d [] rest all = refl
numbers_passed d (b ∷ digits) rest all = passed d b (digits ++ rest) (number_passed b all.0)
    ∙ numbers_passed d digits rest all.1

spaces_passed : (d : ℕ) {text rest : List ℕ} → Spaces text rest
    → behind_value d Outside text ≡ behind_value d Outside rest
spaces_passed d no_space = refl
spaces_passed d (a_space {text = text} b is more) = passed d b text (space_passed b is)
    ∙ spaces_passed d more

-- letters of words
word_passed : (d : ℕ) (word rest : List ℕ) → AllByRecursion IsPassed word
    → behind_value d Outside (word ++ rest) ≡ behind_value d Outside rest
word_passed d [] rest all = refl
word_passed d (b ∷ word) rest all = passed d b (word ++ rest) all.0 ∙ word_passed d word rest all.1

letter_passed : (b : ℕ) → 95 < b → b < 123 → IsPassed b
letter_passed b low high =
    record {
      no_comma = grind (arith, nat_tests);
      no_closing = grind (arith, nat_tests);
      no_quote = grind (arith, nat_tests);
      no_opening = grind (arith, nat_tests);
    }

quoted : (d : ℕ) (text : List ℕ) → behind_value d Outside (34 ∷ text) ≡ behind_value d Inside text
quoted zero text = refl
quoted (suc d) text = refl

string_passed : (d : ℕ) {text rest : List ℕ} {ps : List Piece} → Chars text rest ps
    → behind_value d Outside (34 ∷ text) ≡ behind_value d Outside rest
string_passed d {text = text} {rest = rest} chars =
    let s = chars_at chars in
    quoted d text ∙ ap (behind_value d Inside) s.parts ∙ body_behind d s.raw rest s.body

opened_array : (d : ℕ) (text : List ℕ)
    → behind_value d Outside (91 ∷ text) ≡ behind_value (suc d) Outside text
opened_array zero text = refl
opened_array (suc d) text = refl

opened_object : (d : ℕ) (text : List ℕ)
    → behind_value d Outside (123 ∷ text) ≡ behind_value (suc d) Outside text
opened_object zero text = refl
opened_object (suc d) text = refl

colon_passed : (d : ℕ) (text : List ℕ)
    → behind_value d Outside (58 ∷ text) ≡ behind_value d Outside text
colon_passed zero text = refl
colon_passed (suc d) text = refl

mutual
  pub value_behind : (d : ℕ) {n : ℕ} {text rest : List ℕ} {x : Json} → Value n text rest x
      → behind_value d Outside text ≡ behind_value d Outside rest
  value_behind d (a_null {rest = rest}) =
      word_passed d (110 ∷ 117 ∷ 108 ∷ 108 ∷ []) rest (
        letter_passed 110 (omega arith) (omega arith),
        (
          letter_passed 117 (omega arith) (omega arith),
          (
            letter_passed 108 (omega arith) (omega arith),
            (letter_passed 108 (omega arith) (omega arith), tt),
          ),
        ),
      )
  value_behind d (a_true {rest = rest}) =
      word_passed d (116 ∷ 114 ∷ 117 ∷ 101 ∷ []) rest (
        letter_passed 116 (omega arith) (omega arith),
        (
          letter_passed 114 (omega arith) (omega arith),
          (
            letter_passed 117 (omega arith) (omega arith),
            (letter_passed 101 (omega arith) (omega arith), tt),
          ),
        ),
      )
  value_behind d (a_false {rest = rest}) =
      word_passed d (102 ∷ 97 ∷ 108 ∷ 115 ∷ 101 ∷ []) rest (
        letter_passed 102 (omega arith) (omega arith),
        (
          letter_passed 97 (omega arith) (omega arith),
          (
            letter_passed 108 (omega arith) (omega arith),
            (
              letter_passed 115 (omega arith) (omega arith),
              (letter_passed 101 (omega arith) (omega arith), tt),
            ),
          ),
        ),
      )
  value_behind d (a_number {rest = rest} digits is) =
      numbers_passed d digits rest (number_bytes digits is)
  value_behind d (a_string chars) = string_passed d chars
  value_behind d (an_array {text = text} few xs) = opened_array d text ∙ items_behind d xs
  value_behind d (an_object {text = text} few fs) = opened_object d text ∙ members_behind d fs

  item_behind : (d : ℕ) {n : ℕ} {text rest : List ℕ} {x : Json} → Item n text rest x
      → behind_value d Outside text ≡ behind_value d Outside rest
  item_behind d (an_item spaces value) = spaces_passed d spaces ∙ value_behind d value

  items_behind : (d : ℕ) {n : ℕ} {text rest : List ℕ} {xs : Jsons} → Items n text rest xs
      → behind_value (suc d) Outside text ≡ behind_value d Outside rest
  items_behind d (no_items spaces) = spaces_passed (suc d) spaces
  items_behind d (some_items list) = item_list_behind d list

  item_list_behind : (d : ℕ) {n : ℕ} {text rest : List ℕ} {xs : Jsons} → ItemList n text rest xs
      → behind_value (suc d) Outside text ≡ behind_value d Outside rest
  item_list_behind d (item_list item more) = item_behind (suc d) item ∙ more_items_behind d more

  more_items_behind : (d : ℕ) {n : ℕ} {text rest : List ℕ} {xs : Jsons} → MoreItems n text rest xs
      → behind_value (suc d) Outside text ≡ behind_value d Outside rest
  more_items_behind d (no_more_items spaces) = spaces_passed (suc d) spaces
  more_items_behind d (more_items spaces list) = spaces_passed (suc d) spaces
      ∙ item_list_behind d list

  member_behind : (d : ℕ) {n : ℕ} {text rest : List ℕ} {ps : List Piece} {x : Json}
      → Member n text rest ps x → behind_value d Outside text ≡ behind_value d Outside rest
  member_behind d (a_member {mark = mark} spaces chars colons item) =
      spaces_passed d spaces ∙ string_passed d chars ∙ spaces_passed d colons ∙ colon_passed d mark
      ∙ item_behind d item

  members_behind : (d : ℕ) {n : ℕ} {text rest : List ℕ} {fs : Fields} → Members n text rest fs
      → behind_value (suc d) Outside text ≡ behind_value d Outside rest
  members_behind d (no_members spaces) = spaces_passed (suc d) spaces
  members_behind d (some_members list) = member_list_behind d list

  member_list_behind : (d : ℕ) {n : ℕ} {text rest : List ℕ} {fs : Fields}
      → MemberList n text rest fs → behind_value (suc d) Outside text ≡ behind_value d Outside rest
  member_list_behind d (member_list member more) = member_behind (suc d) member
      ∙ more_members_behind d more

  more_members_behind : (d : ℕ) {n : ℕ} {text rest : List ℕ} {fs : Fields}
      → MoreMembers n text rest fs → behind_value (suc d) Outside text ≡ behind_value d Outside rest
  more_members_behind d (no_more_members spaces) = spaces_passed (suc d) spaces
  more_members_behind d (more_members spaces list) = spaces_passed (suc d) spaces
      ∙ member_list_behind d list

-- ---- white space in front

-- the first byte is no white space
pub record Starts (text : List ℕ) : Type 0 where
  pub first : ℕ
  pub more : List ℕ
  pub parts : text ≡ first ∷ more
  pub no_white : is_space first ≡ false
  pub no_end : (first == 93) ≡ false

starts : (b : ℕ) (more : List ℕ) → is_space b ≡ false → (b == 93) ≡ false → Starts (b ∷ more)
starts b more no_white no_end =
    record { first = b; more = more; parts = refl; no_white = no_white; no_end = no_end }

digit_white : (b : ℕ) → IsDigit b → is_space b ≡ false
digit_white b is = grind (arith, nat_tests)

digit_end : (b : ℕ) → IsDigit b → (b == 93) ≡ false
digit_end b is = grind (arith, nat_tests)

number_starts : (digits rest : List ℕ) → IsNumber digits → Starts (digits ++ rest)
number_starts _ rest (negative w f e a b c) = starts 45 ((w ++ (f ++ e)) ++ rest) refl refl
number_starts _ rest (positive _ f e nought b c) = starts 48 ((f ++ e) ++ rest) refl refl
number_starts _ rest (positive _ f e (whole {ds = ds} d first all) b c) =
    starts d ((ds ++ (f ++ e)) ++ rest) (digit_white d (first_byte d first))
    (digit_end d (first_byte d first))

pub value_starts : {n : ℕ} {text rest : List ℕ} {x : Json} → Value n text rest x → Starts text
value_starts (a_null {rest = rest}) = starts 110 (117 ∷ 108 ∷ 108 ∷ rest) refl refl
value_starts (a_true {rest = rest}) = starts 116 (114 ∷ 117 ∷ 101 ∷ rest) refl refl
value_starts (a_false {rest = rest}) = starts 102 (97 ∷ 108 ∷ 115 ∷ 101 ∷ rest) refl refl
value_starts (a_number {rest = rest} digits is) = number_starts digits rest is
value_starts (a_string {text = text} chars) = starts 34 text refl refl
value_starts (an_array {text = text} few xs) = starts 91 text refl refl
value_starts (an_object {text = text} few fs) = starts 123 text refl refl

not_white : (b : ℕ) (more : List ℕ) → is_space b ≡ false → behind_spaces (b ∷ more) ≡ b ∷ more
not_white b more is = rw is refl

pub at_start : (text : List ℕ) → Starts text → behind_spaces text ≡ text
at_start text s = ap behind_spaces s.parts ∙ not_white s.first s.more s.no_white ∙ sym s.parts

pub spaces_behind : {text rest : List ℕ} → Spaces text rest
    → behind_spaces text ≡ behind_spaces rest
spaces_behind no_space = refl
spaces_behind (a_space b is more) = rw is (spaces_behind more)

-- ---- items and members, one after the other

-- no number goes on here
abbrev pub IsCut : List ℕ → Type 0
IsCut rest = is_number_byte (slice_index rest 0) ≡ false

-- a text that begins with a value
pub record Says (text : List ℕ) (x : Json) : Type 0 where
  pub level : ℕ
  pub rest : List ℕ
  pub value : Value level text rest x
  pub cut : IsCut rest

cut_space : (b : ℕ) → is_space b ≡ true → is_number_byte b ≡ false
cut_space b is = grind (arith, nat_tests)

cut_behind : (b : ℕ) {text rest : List ℕ} → Spaces text (b ∷ rest) → is_number_byte b ≡ false
    → IsCut text
cut_behind b no_space is = is
cut_behind b (a_space c white more) is = cut_space c white

pub spaces_cut : {text : List ℕ} → Spaces text [] → IsCut text
spaces_cut no_space = refl
spaces_cut (a_space c white more) = cut_space c white

more_items_cut : {n : ℕ} {text rest : List ℕ} {xs : Jsons} → MoreItems n text rest xs → IsCut text
more_items_cut (no_more_items spaces) = cut_behind 93 spaces refl
more_items_cut (more_items spaces list) = cut_behind 44 spaces refl

more_members_cut : {n : ℕ} {text rest : List ℕ} {fs : Fields} → MoreMembers n text rest fs
    → IsCut text
more_members_cut (no_more_members spaces) = cut_behind 125 spaces refl
more_members_cut (more_members spaces list) = cut_behind 44 spaces refl

-- the rest is shorter
shorter_spaces : {text rest : List ℕ} → Spaces text rest → length rest ≤ length text
shorter_spaces no_space = omega arith
shorter_spaces (a_space b is more) = let less = shorter_spaces more in omega arith

-- what follows an item or a member, after its comma
abbrev Comma : List ℕ → List ℕ → Type 0
Comma text comma = behind_comma (behind_value 0 Outside text) ≡ comma

next_of : {n : ℕ} {text rest : List ℕ} {x : Json} → Value n text rest x → (comma : List ℕ)
    → behind_comma (behind_value 0 Outside rest) ≡ comma → next_start text ≡ comma
next_of value comma is = ap behind_comma (value_behind 0 value) ∙ is

pub data ItemsSay : List (List ℕ) → Jsons → Type 0 where
  none_said : ItemsSay [] no_json
  one_said : {text : List ℕ} {texts : List (List ℕ)} {x : Json} {xs : Jsons} → Says text x
      → ItemsSay texts xs → ItemsSay (text ∷ texts) (one_json x xs)

pub record PartSays (p : Part) (ps : List Piece) (x : Json) : Type 0 where
  pub key : string_reading p.key ≡ text_of ps
  pub value : Says p.value x

pub data PartsSay : List Part → Fields → Type 0 where
  no_part_said : PartsSay [] no_field
  part_said : {p : Part} {parts : List Part} {ps : List Piece} {x : Json} {fs : Fields}
      → PartSays p ps x → PartsSay parts fs → PartsSay (p ∷ parts) (one_field ps x fs)

item_there : (text value : List ℕ) → behind_spaces text ≡ value → Starts value
    → next_item text ≡ Some (value, next_start value)
unfolding next_item
item_there text value is s =
    let some : (length value == 0) ≡ false = ap (λ v. length v == 0) s.parts
    ∙ grind (arith, nat_tests) in
    let first : (slice_index value 0 == 93) ≡ false = ap (λ v. slice_index v 0 == 93) s.parts
    ∙ s.no_end in
    rw (is, some, first) refl

no_item_there : (text : List ℕ) → length text ≡ 0 → next_item text ≡ None
unfolding next_item
no_item_there [] is = refl
no_item_there (b ∷ text) is = absurd (omega arith)

or_true : (b : Bool) → (b || true) ≡ true
or_true true = refl
or_true false = refl

end_there : (text rest : List ℕ) → behind_spaces text ≡ 93 ∷ rest → next_item text ≡ None
unfolding next_item
end_there text rest is = rw (is, or_true) refl

-- ---- how long they are

chars_shorter : {text rest : List ℕ} {ps : List Piece} → Chars text rest ps
    → length rest < length text
chars_shorter {rest = rest} chars =
    let s = chars_at chars in
    let whole = ap length s.parts in
    let joined = length-append s.raw (34 ∷ rest) in
    omega arith

some_digits : (digits : List ℕ) → IsNumber digits → 0 < length digits
some_digits _ (negative w f e a b c) = omega arith
some_digits _ (positive _ f e nought b c) = omega arith
some_digits _ (positive _ f e (whole d first all) b c) = omega arith

mutual
  value_shorter : {n : ℕ} {text rest : List ℕ} {x : Json} → Value n text rest x
      → length rest < length text
  value_shorter a_null = omega arith
  value_shorter a_true = omega arith
  value_shorter a_false = omega arith
  value_shorter (a_number {rest = rest} digits is) = let some =
      some_digits digits is in let joined = length-append digits rest in omega arith
  value_shorter (a_string chars) = let less = chars_shorter chars in omega arith
  value_shorter (an_array few xs) = let less = items_shorter xs in omega arith
  value_shorter (an_object few fs) = let less = members_shorter fs in omega arith

  item_shorter : {n : ℕ} {text rest : List ℕ} {x : Json} → Item n text rest x
      → length rest < length text
  item_shorter (an_item spaces value) = let a = shorter_spaces spaces in let b =
      value_shorter value in omega arith

  items_shorter : {n : ℕ} {text rest : List ℕ} {xs : Jsons} → Items n text rest xs
      → length rest < length text
  items_shorter (no_items spaces) = let a = shorter_spaces spaces in omega arith
  items_shorter (some_items list) = item_list_shorter list

  item_list_shorter : {n : ℕ} {text rest : List ℕ} {xs : Jsons} → ItemList n text rest xs
      → length rest < length text
  item_list_shorter (item_list item more) = let a = item_shorter item in let b =
      more_items_shorter more in omega arith

  more_items_shorter : {n : ℕ} {text rest : List ℕ} {xs : Jsons} → MoreItems n text rest xs
      → length rest < length text
  more_items_shorter (no_more_items spaces) = let a = shorter_spaces spaces in omega arith
  more_items_shorter (more_items spaces list) = let a = shorter_spaces spaces in let b =
      item_list_shorter list in omega arith

  member_shorter : {n : ℕ} {text rest : List ℕ} {ps : List Piece} {x : Json}
      → Member n text rest ps x → length rest < length text
  member_shorter (a_member spaces chars colons item) =
      let a = shorter_spaces spaces in let b = chars_shorter chars in let c =
      shorter_spaces colons in let d = item_shorter item in omega arith

  members_shorter : {n : ℕ} {text rest : List ℕ} {fs : Fields} → Members n text rest fs
      → length rest < length text
  members_shorter (no_members spaces) = let a = shorter_spaces spaces in omega arith
  members_shorter (some_members list) = member_list_shorter list

  member_list_shorter : {n : ℕ} {text rest : List ℕ} {fs : Fields} → MemberList n text rest fs
      → length rest < length text
  member_list_shorter (member_list member more) = let a = member_shorter member in let b =
      more_members_shorter more in omega arith

  more_members_shorter : {n : ℕ} {text rest : List ℕ} {fs : Fields} → MoreMembers n text rest fs
      → length rest < length text
  more_members_shorter (no_more_members spaces) = let a = shorter_spaces spaces in omega arith
  more_members_shorter (more_members spaces list) = let a = shorter_spaces spaces in let b =
      member_list_shorter list in omega arith

-- ---- all items

item_on : (fuel k : ℕ) (text start rest comma : List ℕ) {n : ℕ} {x : Json} → fuel ≡ suc k
    → Spaces text start → Value n start rest x
    → behind_comma (behind_value 0 Outside rest) ≡ comma → items fuel text ≡ start ∷ items k comma
item_on fuel k text start rest comma same spaces value is =
    let s = value_starts value in
    items_on fuel k text start (next_start start) same
    (item_there text start (spaces_behind spaces ∙ at_start start s) s)
    ∙ ap (λ t. start ∷ items k t) (next_of value comma is)

pub items_say : (fuel : ℕ) {n : ℕ} {text rest : List ℕ} {xs : Jsons} → ItemList n text rest xs
    → length text ≤ fuel → ItemsSay (items fuel text) xs
items_say zero list few = let less = item_list_shorter list in absurd (omega arith)
items_say (suc k)
    (item_list {n = n} {text = text} {behind = rest} {x = x} (an_item {start = start} spaces value)
    (no_more_items {rest = end} closing)) few =
    let is : behind_comma (behind_value 0 Outside rest) ≡ [] =
    ap behind_comma (spaces_passed 0 closing) in
    let all : items (suc k) text ≡ start ∷ [] =
    item_on (suc k) k text start rest [] refl spaces value is
    ∙ ap (λ t. start ∷ t) (items_stop k [] (no_item_there [] refl)) in
    subst (λ t. ItemsSay t (one_json x no_json)) (sym all)
    (one_said
    (record { level = n; rest = rest; value = value; cut = cut_behind 93 closing refl })
    none_said)
items_say (suc k)
    (item_list {n = n} {text = text} {behind = rest} {x = x} (an_item {start = start} spaces value)
    (more_items {comma = comma} {xs = xs} commas list)) few =
    let is : behind_comma (behind_value 0 Outside rest) ≡ comma =
    ap behind_comma (spaces_passed 0 commas) in
    let all : items (suc k) text ≡ start ∷ items k comma =
    item_on (suc k) k text start rest comma refl spaces value is in
    let a = shorter_spaces spaces in
    let b = value_shorter value in
    let c = shorter_spaces commas in
    subst (λ t. ItemsSay t (one_json x xs)) (sym all)
    (one_said (record { level = n; rest = rest; value = value; cut = cut_behind 44 commas refl })
    (items_say k list (omega arith)))

pub all_items_say : {n : ℕ} {text rest : List ℕ} {xs : Jsons} → Items n text rest xs
    → ItemsSay (items (length text) text) xs
all_items_say (no_items {text = text} {rest = rest} spaces) =
    subst (λ t. ItemsSay t no_json)
    (sym (items_stop (length text) text (end_there text rest (spaces_behind spaces)))) none_said
all_items_say (some_items {text = text} list) = items_say (length text) list (omega arith)

-- ---- all members

member_there : {n : ℕ} {rest : List ℕ} {ps : List Piece} {x : Json}
    → (text key colon mark start : List ℕ) → Spaces text (34 ∷ key) → (s : StringAt key colon ps)
    → Spaces colon (58 ∷ mark)
    → Spaces mark start → Value n start rest x
    → next_member text ≡ Some (record { key = s.raw; value = start; rest = next_start start })
unfolding next_member
member_there text key colon mark start spaces s colons marks value =
    let quote : behind_spaces text ≡ 34 ∷ key = spaces_behind spaces in
    let behind : behind_spaces colon ≡ 58 ∷ mark = spaces_behind colons in
    let begins : behind_spaces mark ≡ start = spaces_behind marks
    ∙ at_start start (value_starts value) in
    let there : string_at key ≡ Some (s.raw, colon) = string_there s in
    rw (quote, there, behind, begins) refl

no_member_there : (text rest : List ℕ) → behind_spaces text ≡ 125 ∷ rest → next_member text ≡ None
unfolding next_member
no_member_there text rest is = rw is refl

no_member_in : next_member [] ≡ None
unfolding next_member
no_member_in = refl

pub members_say : (fuel : ℕ) {n : ℕ} {text rest : List ℕ} {fs : Fields} → MemberList n text rest fs
    → length text ≤ fuel → PartsSay (members fuel text) fs
members_say zero list few = let less = member_list_shorter list in absurd (omega arith)
members_say (suc k)
    (member_list {n = n} {text = text} {behind = rest} {ps = ps} {x = x}
    (a_member {key = key} {colon = colon} {mark = mark} spaces chars colons
    (an_item {start = start} marks value)) (no_more_members closing)) few =
    let s = chars_at chars in
    let is : behind_comma (behind_value 0 Outside rest) ≡ [] =
    ap behind_comma (spaces_passed 0 closing) in
    let part : Part = record { key = s.raw; value = start } in
    let all : members (suc k) text ≡ part ∷ [] =
    members_on (suc k) k text _ refl
    (member_there text key colon mark start spaces s colons marks value)
    ∙ ap (λ t. part ∷ members k t) (next_of value [] is)
    ∙ ap (λ t. part ∷ t) (members_stop k [] no_member_in) in
    subst (λ t. PartsSay t (one_field ps x no_field)) (sym all)
    (part_said
    (record {
      key = string_is s chars;
      value = record {
        level = n;
        rest = rest;
        value = value;
        cut = cut_behind 125 closing refl;
      };
    }) no_part_said)
members_say (suc k)
    (member_list {n = n} {text = text} {behind = rest} {ps = ps} {x = x}
    (a_member {key = key} {colon = colon} {mark = mark} spaces chars colons
    (an_item {start = start} marks value)) (more_members {comma = comma} {fs = fs} commas list))
    few =
    let s = chars_at chars in
    let is : behind_comma (behind_value 0 Outside rest) ≡ comma =
    ap behind_comma (spaces_passed 0 commas) in
    let part : Part = record { key = s.raw; value = start } in
    let all : members (suc k) text ≡ part ∷ members k comma =
    members_on (suc k) k text _ refl
    (member_there text key colon mark start spaces s colons marks value)
    ∙ ap (λ t. part ∷ members k t) (next_of value comma is) in
    let a = shorter_spaces spaces in
    let b = chars_shorter chars in
    let c = shorter_spaces colons in
    let d = shorter_spaces marks in
    let e = value_shorter value in
    let f = shorter_spaces commas in
    subst (λ t. PartsSay t (one_field ps x fs)) (sym all)
    (part_said
    (record {
      key = string_is s chars;
      value = record { level = n; rest = rest; value = value; cut = cut_behind 44 commas refl };
    })
    (members_say k list (omega arith)))

pub all_members_say : {n : ℕ} {text rest : List ℕ} {fs : Fields} → Members n text rest fs
    → PartsSay (members (length text) text) fs
all_members_say (no_members {text = text} {rest = rest} spaces) =
    subst (λ t. PartsSay t no_field)
    (sym (members_stop (length text) text (no_member_there text rest (spaces_behind spaces))))
    no_part_said
all_members_say (some_members {text = text} list) = members_say (length text) list (omega arith)
