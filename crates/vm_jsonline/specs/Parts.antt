-- The parts of a text that is known to be JSON, where they lie.
use Rattle.std.specs.Prelude.{ℕ, zero, suc, ◌+◌, ◌==◌, ◌||◌, ◌&&◌, not, Bool, false, List, [], ◌∷◌, length, take, drop, slice_index, Option, Some, None, option_map, option_and_then, if◌then◌else◌}
use Rattle.vm_json.specs.Grammar.{is_space}
use Rattle.vm_jsonline.specs.declared.parts.Mode.{Mode}
use Rattle.vm_jsonline.specs.declared.parts.Mode.TheVariants.{Outside, Inside, Escaped}

-- what stands after any white space
abbrev pub behind_spaces : List ℕ → List ℕ
behind_spaces [] = []
behind_spaces (b ∷ more) = if is_space b then behind_spaces more else b ∷ more

-- the place of the quote that ends a string; `escaped` says whether a backslash stands before it
abbrev pub quote_place : Bool → List ℕ → Option ℕ
quote_place escaped [] = None
quote_place escaped (b ∷ more) =
    if not escaped && b == 34 then Some 0
    else option_map suc (quote_place (not escaped && b == 92) more)

-- what stands between the quotes, and the rest
abbrev pub string_at : List ℕ → Option (List ℕ × List ℕ)
string_at text = option_map (λ at. (take at text, drop (at + 1) text)) (quote_place false text)

-- `[` or `{`, and `]` or `}`
abbrev pub is_opening : ℕ → Bool
is_opening b = b == 91 || b == 123

abbrev pub is_closing : ℕ → Bool
is_closing b = b == 93 || b == 125

-- after a value that stands at the front, with so many brackets open: from the comma or the bracket
-- on that follows it
abbrev pub behind_value : ℕ → Mode → List ℕ → List ℕ
behind_value depth mode [] = []
behind_value depth Inside (b ∷ more) =
    if b == 34 then behind_value depth Outside more
    else (if b == 92 then behind_value depth Escaped more else behind_value depth Inside more)
behind_value depth Escaped (b ∷ more) = behind_value depth Inside more
behind_value zero Outside (b ∷ more) =
    if b == 44 || is_closing b then b ∷ more
    else (if b == 34 then behind_value 0 Inside more
    else (if is_opening b then behind_value 1 Outside more else behind_value 0 Outside more))
behind_value (suc depth) Outside (b ∷ more) =
    if is_closing b then behind_value depth Outside more
    else (if b == 34 then behind_value (suc depth) Inside more
    else (if is_opening b then behind_value (suc (suc depth)) Outside more
    else behind_value (suc depth) Outside more))

-- whether a byte ends the value
abbrev pub is_end : ℕ → Mode → ℕ → Bool
is_end zero Outside b = b == 44 || is_closing b
is_end _ _ b = false

-- what follows the comma after a value, nothing where there is none
abbrev pub behind_comma : List ℕ → List ℕ
behind_comma text = if slice_index text 0 == 44 then drop 1 text else []

-- what follows the comma after the value at the front
abbrev pub next_start : List ℕ → List ℕ
next_start value = behind_comma (behind_value 0 Outside value)

-- a text that begins with an item, and what follows its comma
unfoldable pub next_item : List ℕ → Option (List ℕ × List ℕ)
next_item text =
    let value = behind_spaces text in
    if length value == 0 || slice_index value 0 == 93 then None else Some (value, next_start value)

-- a member: what stands between the quotes of its key, a text that begins with its value, and what
-- follows its comma
pub record MemberRead : Type 0 where
  pub key : List ℕ
  pub value : List ℕ
  pub rest : List ℕ

-- the member with this key, where a colon follows it
abbrev pub with_colon : List ℕ × List ℕ → Option MemberRead
with_colon key =
    let colon = behind_spaces key.1 in
    let value = behind_spaces (drop 1 colon) in
    if slice_index colon 0 == 58
    then Some (record { key = key.0; value = value; rest = next_start value }) else None

-- the member at the front, where one stands there
unfoldable pub next_member : List ℕ → Option MemberRead
next_member text =
    let quote = behind_spaces text in
    if slice_index quote 0 == 34 then option_and_then with_colon (string_at (drop 1 quote))
    else None

-- the item that was read, and those of the rest
abbrev pub items_of : (List ℕ → List (List ℕ)) → Option (List ℕ × List ℕ) → List (List ℕ)
items_of more None = []
items_of more (Some item) = item.0 ∷ more item.1

-- all items, in at most so many steps
unfoldable pub items : ℕ → List ℕ → List (List ℕ)
items zero text = []
items (suc more) text = items_of (λ rest. items more rest) (next_item text)

-- a member: what stands between the quotes of its key, and a text that begins with its value
pub record Part : Type 0 where
  pub key : List ℕ
  pub value : List ℕ

-- the member that was read, and those of the rest
abbrev pub members_of : (List ℕ → List Part) → Option MemberRead → List Part
members_of more None = []
members_of more (Some m) = record { key = m.key; value = m.value } ∷ more m.rest

-- all members, in at most so many steps
unfoldable pub members : ℕ → List ℕ → List Part
members zero text = []
members (suc more) text = members_of (λ rest. members more rest) (next_member text)
