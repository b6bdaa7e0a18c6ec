-- What the machine reads is in the grammar: by what may follow each phase, from the end of a text
-- to its front.
use Rattle.std.specs.Prelude.{◌≡◌, ◌==◌, ℕ, suc, ◌<◌, nat_lt, cond, Bool, true, false, List, [], ◌∷◌, ◌++◌, length, Option, Some, None, is_some}
use Rattle.std.specs.Int.{is_in_range}
use Rattle.std.specs.Option.{option_map}
use Rattle.std.proofs.Common.{refl, arith, sym, ap, subst, ◌∙◌}
use Rattle.std.proofs.lemmas.Bool.Decides.{nat_tests}
use Rattle.vm_json.specs.Grammar.{is_space, is_mark, is_sign, is_plain, is_tail, is_hex, unit_of, hex_unit, bytes, IsDigit, IsDigits, IsWhole, nought, whole, IsFraction, no_fraction, fraction, IsExponent, no_exponent, exponent, signed_exponent, IsNumber, positive, negative, IsWide, two, three_e0, three_low, three_ed, three_high, four_f0, four, four_f4, Chars, last_quote, plain, wide, letter, hex, Piece, unit, Json, Jsons, no_json, one_json, Fields, no_field, one_field, null, number, string, boolean, array, object, Spaces, no_space, a_space, Value, a_null, a_true, a_false, a_number, a_string, an_array, an_object, Item, an_item, Items, no_items, some_items, ItemList, item_list, MoreItems, no_more_items, more_items, Member, a_member, Members, no_members, some_members, MemberList, member_list, MoreMembers, no_more_members, more_members, Spells, spells}
use Rattle.vm_json.specs.Machine.{State, at, symbol_of, by_phase, final, wanted, first_item, first_key, key, behind_key, behind, in_number, in_digits, may_end, behind_string, behind_lead, only}
use Rattle.vm_json.specs.declared.nesting.Bracket.{Bracket}
use Rattle.vm_json.specs.declared.nesting.Bracket.TheVariants.{Square, Curly}
use Rattle.vm_json.specs.declared.phase.Phase.{Phase}
use Rattle.vm_json.specs.declared.phase.Phase.TheVariants.{Wanted, FirstItem, FirstKey, Key, BehindKey, Behind, InString, InNumber, InWord}
use Rattle.vm_json.specs.declared.phase.Digits.{Digits}
use Rattle.vm_json.specs.declared.phase.Digits.TheVariants.{Signed, Zero, Whole, Bare, Fraction, Marked, MarkSigned, Power}
use Rattle.vm_json.specs.declared.phase.Symbol.{Symbol}
use Rattle.vm_json.specs.declared.phase.Word.{Word}
use Rattle.vm_json.specs.declared.phase.Word.TheVariants.{T, Tr, Tru, F, Fa, Fal, Fals, N, Nu, Nul}
use Rattle.vm_json.specs.declared.string_machine.Within.{Within}
use Rattle.vm_json.specs.declared.string_machine.Within.TheVariants.{Plain, Escape, FourHex, ThreeHex, TwoHex, OneHex, OneTail, TwoTails, ThreeTails, BehindE0, BehindED, BehindF0, BehindF4}
use Rattle.vm_json.proofs.Symbols.{Is, is_nought, is_digit, is_white, is_quote, is_begin_array, is_begin_object, is_end_array, is_end_object, is_comma, is_colon, is_minus, is_plus, is_point, is_exp, is_t, is_f, is_n, symbol_is, Reads, Moves, equal, digit_any}

-- a front of some kind, and what stands after it
pub record Then (A : Type 0) (P : List ℕ → A → Type 0) (Q : List ℕ → Type 0) : Type 0 where
  pub rest : List ℕ
  pub what : A
  pub front : P rest what
  pub behind : Q rest

-- ---- what may follow a value, by the open brackets

abbrev pub Behinds : List Bracket → List ℕ → Type 0
Behinds [] text = Spaces text []
Behinds (Square ∷ inside) text = Then Jsons (MoreItems (suc (length inside)) text) (Behinds inside)
Behinds (Curly ∷ inside) text =
    Then Fields (MoreMembers (suc (length inside)) text) (Behinds inside)

-- a value, with white space before it, and what follows it
abbrev pub Wanteds : List Bracket → List ℕ → Type 0
Wanteds inside text = Then Json (Item (length inside) text) (Behinds inside)

abbrev FirstItems : List Bracket → List ℕ → Type 0
FirstItems (Square ∷ inside) text = Then Jsons (Items (suc (length inside)) text) (Behinds inside)
FirstItems _ text = Unit {0}

abbrev FirstKeys : List Bracket → List ℕ → Type 0
FirstKeys (Curly ∷ inside) text = Then Fields (Members (suc (length inside)) text) (Behinds inside)
FirstKeys _ text = Unit {0}

abbrev Keys : List Bracket → List ℕ → Type 0
Keys (Curly ∷ inside) text = Then Fields (MemberList (suc (length inside)) text) (Behinds inside)
Keys _ text = Unit {0}

-- a colon and a value
data Valued (n : ℕ) (text rest : List ℕ) (x : Json) : Type 0 where
  valued : {mark : List ℕ} → Spaces text (58 ∷ mark) → Item n mark rest x → Valued n text rest x

abbrev BehindKeys : List Bracket → List ℕ → Type 0
BehindKeys (Curly ∷ inside) text =
    Then Json (Valued (suc (length inside)) text) (Behinds (Curly ∷ inside))
BehindKeys _ text = Unit {0}

-- ---- strings

record CharsTo (text rest : List ℕ) : Type 0 where
  pub pieces : List Piece
  pub are : Chars text rest pieces

-- so many later bytes of a character, and more of the string
data Tails : ℕ → List ℕ → List ℕ → Type 0 where
  no_tail : {text rest : List ℕ} → CharsTo text rest → Tails 0 text rest
  a_tail : {n : ℕ} {text rest : List ℕ} (b : ℕ) → is_tail b ≡ true → Tails n text rest
      → Tails (suc n) (b ∷ text) rest

-- the same after a second byte that is narrowed down
data Narrow (low high n : ℕ) : List ℕ → List ℕ → Type 0 where
  narrow : {text rest : List ℕ} (b : ℕ) → is_in_range low high b ≡ true → Tails n text rest
      → Narrow low high n (b ∷ text) rest

data Hexes : ℕ → List ℕ → List ℕ → Type 0 where
  no_hex : {text rest : List ℕ} → CharsTo text rest → Hexes 0 text rest
  a_hex : {n : ℕ} {text rest : List ℕ} (b : ℕ) → is_hex b ≡ true → Hexes n text rest
      → Hexes (suc n) (b ∷ text) rest

abbrev Rest : Within → List ℕ → List ℕ → Type 0
Rest Plain text rest = CharsTo text rest
Rest Escape text rest = CharsTo (92 ∷ text) rest
Rest FourHex text rest = Hexes 4 text rest
Rest ThreeHex text rest = Hexes 3 text rest
Rest TwoHex text rest = Hexes 2 text rest
Rest OneHex text rest = Hexes 1 text rest
Rest OneTail text rest = Tails 1 text rest
Rest TwoTails text rest = Tails 2 text rest
Rest ThreeTails text rest = Tails 3 text rest
Rest BehindE0 text rest = Narrow 0xA0 0xBF 1 text rest
Rest BehindED text rest = Narrow 0x80 0x9F 1 text rest
Rest BehindF0 text rest = Narrow 0x90 0xBF 2 text rest
Rest BehindF4 text rest = Narrow 0x80 0x8F 2 text rest

abbrev AfterString : Bool → List Bracket → List ℕ → Type 0
AfterString true inside text = BehindKeys inside text
AfterString false inside text = Behinds inside text

-- `Then` with nothing to tell of the front
record Up (P Q : List ℕ → Type 0) : Type 0 where
  pub rest : List ℕ
  pub front : P rest
  pub behind : Q rest

abbrev InStrings : Bool → Within → List Bracket → List ℕ → Type 0
InStrings a_key w inside text = Up (Rest w text) (AfterString a_key inside)

-- ---- numbers and words

record AfterWhole (t : List ℕ) : Type 0 where
  pub f : List ℕ
  pub e : List ℕ
  pub parts : t ≡ f ++ e
  pub a_fraction : IsFraction f
  pub an_exponent : IsExponent e

record AfterDigits (P : List ℕ → Type 0) (t : List ℕ) : Type 0 where
  pub ds : List ℕ
  pub more : List ℕ
  pub parts : t ≡ ds ++ more
  pub all : IsDigits ds
  pub then_more : P more

record AfterMinus (t : List ℕ) : Type 0 where
  pub w : List ℕ
  pub more : List ℕ
  pub parts : t ≡ w ++ more
  pub a_whole : IsWhole w
  pub after : AfterWhole more

abbrev Follows : Digits → List ℕ → Type 0
Follows Signed t = AfterMinus t
Follows Zero t = AfterWhole t
Follows Whole t = AfterDigits AfterWhole t
Follows Bare t = AfterWhole (46 ∷ t)
Follows Fraction t = AfterDigits IsExponent t
Follows Marked t = (mark : ℕ) → is_mark mark ≡ true → IsExponent (mark ∷ t)
Follows MarkSigned t = (mark sign : ℕ) → is_mark mark ≡ true → is_sign sign ≡ true
    → IsExponent (mark ∷ sign ∷ t)
Follows Power t = IsDigits t

record InNumbers (d : Digits) (inside : List Bracket) (text : List ℕ) : Type 0 where
  pub digits : List ℕ
  pub rest : List ℕ
  pub parts : text ≡ digits ++ rest
  pub follows : Follows d digits
  pub behind : Behinds inside rest

abbrev letters : Word → List ℕ
letters T = 114 ∷ 117 ∷ 101 ∷ []
letters Tr = 117 ∷ 101 ∷ []
letters Tru = 101 ∷ []
letters F = 97 ∷ 108 ∷ 115 ∷ 101 ∷ []
letters Fa = 108 ∷ 115 ∷ 101 ∷ []
letters Fal = 115 ∷ 101 ∷ []
letters Fals = 101 ∷ []
letters N = 117 ∷ 108 ∷ 108 ∷ []
letters Nu = 108 ∷ 108 ∷ []
letters Nul = 108 ∷ []

record InWords (w : Word) (inside : List Bracket) (text : List ℕ) : Type 0 where
  pub rest : List ℕ
  pub parts : text ≡ letters w ++ rest
  pub behind : Behinds inside rest

-- what may follow each phase
abbrev Tail : Phase → List Bracket → List ℕ → Type 0
Tail Wanted inside text = Wanteds inside text
Tail FirstItem inside text = FirstItems inside text
Tail FirstKey inside text = FirstKeys inside text
Tail Key inside text = Keys inside text
Tail BehindKey inside text = BehindKeys inside text
Tail Behind inside text = Behinds inside text
Tail (InString a_key w) inside text = InStrings a_key w inside text
Tail (InNumber d) inside text = InNumbers d inside text
Tail (InWord w) inside text = InWords w inside text

-- what follows the next byte
abbrev More : List ℕ → Type 0
More bs = (q : Phase) (now : List Bracket) → Reads q now bs → Tail q now bs

-- ---- white space in front

module _ {b : ℕ} (white : is_space b ≡ true) {n : ℕ} {text rest : List ℕ} where
  space_item : {x : Json} → Item n text rest x → Item n (b ∷ text) rest x
  space_item (an_item spaces value) = an_item (a_space b white spaces) value

  space_list : {xs : Jsons} → ItemList n text rest xs → ItemList n (b ∷ text) rest xs
  space_list (item_list item more) = item_list (space_it item) more
    where
      space_it : {behind : List ℕ} {x : Json} → Item n text behind x → Item n (b ∷ text) behind x
      space_it (an_item spaces value) = an_item (a_space b white spaces) value

  space_items : {xs : Jsons} → Items n text rest xs → Items n (b ∷ text) rest xs
  space_items (no_items spaces) = no_items (a_space b white spaces)
  space_items (some_items list) = some_items (space_list list)

  space_more_items : {xs : Jsons} → MoreItems n text rest xs → MoreItems n (b ∷ text) rest xs
  space_more_items (no_more_items spaces) = no_more_items (a_space b white spaces)
  space_more_items (more_items spaces list) = more_items (a_space b white spaces) list

  space_member_list : {fs : Fields} → MemberList n text rest fs → MemberList n (b ∷ text) rest fs
  space_member_list (member_list member more) = member_list (space_it member) more
    where
      space_it : {behind : List ℕ} {ps : List Piece} {x : Json} → Member n text behind ps x
          → Member n (b ∷ text) behind ps x
      space_it (a_member spaces chars colons item) =
          a_member (a_space b white spaces) chars colons item

  space_members : {fs : Fields} → Members n text rest fs → Members n (b ∷ text) rest fs
  space_members (no_members spaces) = no_members (a_space b white spaces)
  space_members (some_members list) = some_members (space_member_list list)

  space_more_members : {fs : Fields} → MoreMembers n text rest fs → MoreMembers n (b ∷ text) rest fs
  space_more_members (no_more_members spaces) = no_more_members (a_space b white spaces)
  space_more_members (more_members spaces list) = more_members (a_space b white spaces) list

  space_valued : {x : Json} → Valued n text rest x → Valued n (b ∷ text) rest x
  space_valued (valued spaces item) = valued (a_space b white spaces) item

space_behind : (b : ℕ) → is_space b ≡ true → (inside : List Bracket) (text : List ℕ)
    → Behinds inside text → Behinds inside (b ∷ text)
space_behind b white [] text is = a_space b white is
space_behind b white (Square ∷ inside) text is =
    record {
      rest = is.rest;
      what = is.what;
      front = space_more_items white is.front;
      behind = is.behind;
    }
space_behind b white (Curly ∷ inside) text is =
    record {
      rest = is.rest;
      what = is.what;
      front = space_more_members white is.front;
      behind = is.behind;
    }

-- ---- after a value

-- an item and what follows it, within an array
listed : (inside : List Bracket) (text : List ℕ) → Wanteds (Square ∷ inside) text
    → Then Jsons (ItemList (suc (length inside)) text) (Behinds inside)
listed inside text is = record {
  rest = is.behind.rest;
  what = one_json is.what is.behind.what;
  front = item_list is.front is.behind.front;
  behind = is.behind.behind;
}

tail_behind : (inside : List Bracket) (x : Symbol) (b : ℕ) (bs : List ℕ) → Is x b
    → Moves (behind inside x) bs → More bs → Behinds inside (b ∷ bs)
tail_behind inside _ _ bs (is_white b white) moves more =
    space_behind b white inside bs (more Behind inside moves)
tail_behind (Square ∷ inside) _ _ bs is_comma moves more =
    let list = listed inside bs (more Wanted (Square ∷ inside) moves) in
    record {
      rest = list.rest;
      what = list.what;
      front = more_items no_space list.front;
      behind = list.behind;
    }
tail_behind (Square ∷ inside) _ _ bs is_end_array moves more =
    record {
      rest = bs;
      what = no_json;
      front = no_more_items no_space;
      behind = more Behind inside moves;
    }
tail_behind (Curly ∷ inside) _ _ bs is_comma moves more =
    let list = more Key (Curly ∷ inside) moves in
    record {
      rest = list.rest;
      what = list.what;
      front = more_members no_space list.front;
      behind = list.behind;
    }
tail_behind (Curly ∷ inside) _ _ bs is_end_object moves more =
    record {
      rest = bs;
      what = no_field;
      front = no_more_members no_space;
      behind = more Behind inside moves;
    }
tail_behind [] _ _ bs _ moves more = absurd (cc moves)
tail_behind (Square ∷ inside) _ _ bs _ moves more = absurd (cc moves)
tail_behind (Curly ∷ inside) _ _ bs _ moves more = absurd (cc moves)

-- ---- strings

some_test : {A : Type 0} → (test : Bool) (a : A) (bs : List ℕ) (f : A → State)
    → Moves (option_map f (only test a)) bs → (test ≡ true) × Moves (Some (f a)) bs
some_test true a bs f moves = (refl, moves)
some_test false a bs f moves = absurd (cc moves)

wide_to : (c text rest : List ℕ) → IsWide c → CharsTo text rest → CharsTo (c ++ text) rest
wide_to c text rest is more = record { pieces = bytes c more.pieces; are = wide c is more.are }

two_to : {text rest : List ℕ} (a : ℕ) → is_in_range 0xC2 0xDF a ≡ true → Tails 1 text rest
    → CharsTo (a ∷ text) rest
two_to a is (a_tail b second (no_tail {text = text} {rest = rest} more)) =
    wide_to (a ∷ b ∷ []) text rest (two a b is second) more

three_to : {text rest : List ℕ} (a : ℕ) → is_in_range 0xE1 0xEF a ≡ true → (a == 0xED) ≡ false
    → Tails 2 text rest → CharsTo (a ∷ text) rest
three_to a is not_ed (a_tail b second (a_tail c third (no_tail {text = text} {rest = rest} more))) =
    go (is_in_range 0xE1 0xEC a) refl
  where
    go : (t : Bool) → is_in_range 0xE1 0xEC a ≡ t → CharsTo (a ∷ b ∷ c ∷ text) rest
    go true low = wide_to (a ∷ b ∷ c ∷ []) text rest (three_low a b c low second third) more
    go false high = let above : is_in_range 0xEE 0xEF a ≡ true = grind (arith, nat_tests) in
        wide_to (a ∷ b ∷ c ∷ []) text rest (three_high a b c above second third) more

four_to : {text rest : List ℕ} (a : ℕ) → is_in_range 0xF1 0xF3 a ≡ true → Tails 3 text rest
    → CharsTo (a ∷ text) rest
four_to a is
    (a_tail b second
    (a_tail c third (a_tail d fourth (no_tail {text = text} {rest = rest} more)))) = wide_to
    (a ∷ b ∷ c ∷ d ∷ []) text rest (four a b c d is second third fourth) more

e0_to : {text rest : List ℕ} → Narrow 0xA0 0xBF 1 text rest → CharsTo (0xE0 ∷ text) rest
e0_to (narrow b second (a_tail c third (no_tail {text = text} {rest = rest} more))) =
    wide_to (0xE0 ∷ b ∷ c ∷ []) text rest (three_e0 b c second third) more

ed_to : {text rest : List ℕ} → Narrow 0x80 0x9F 1 text rest → CharsTo (0xED ∷ text) rest
ed_to (narrow b second (a_tail c third (no_tail {text = text} {rest = rest} more))) =
    wide_to (0xED ∷ b ∷ c ∷ []) text rest (three_ed b c second third) more

f0_to : {text rest : List ℕ} → Narrow 0x90 0xBF 2 text rest → CharsTo (0xF0 ∷ text) rest
f0_to (narrow b second
    (a_tail c third (a_tail d fourth (no_tail {text = text} {rest = rest} more)))) = wide_to
    (0xF0 ∷ b ∷ c ∷ d ∷ []) text rest (four_f0 b c d second third fourth) more

f4_to : {text rest : List ℕ} → Narrow 0x80 0x8F 2 text rest → CharsTo (0xF4 ∷ text) rest
f4_to (narrow b second
    (a_tail c third (a_tail d fourth (no_tail {text = text} {rest = rest} more)))) = wide_to
    (0xF4 ∷ b ∷ c ∷ d ∷ []) text rest (four_f4 b c d second third fourth) more

hex_to : {text rest : List ℕ} → Hexes 4 text rest → CharsTo (92 ∷ 117 ∷ text) rest
hex_to (a_hex a is_a (a_hex b is_b (a_hex c is_c (a_hex d is_d (no_hex more))))) =
    record {
      pieces = unit (hex_unit a b c d) ∷ more.pieces;
      are = hex a b c d is_a is_b is_c is_d more.are;
    }

module _ (a_key : Bool) (inside : List Bracket) (bs : List ℕ) (more : More bs) where
  -- a move that a test allows, and one that it doesn't
  tested : (w v : Within) (b : ℕ) (test : Bool)
      → ((rest : List ℕ) → test ≡ true → Rest v bs rest → Rest w (b ∷ bs) rest)
      → Moves (option_map (λ phase. at phase inside) (option_map (InString a_key) (only test v))) bs
      → InStrings a_key w inside (b ∷ bs)
  tested w v b true up moves = let t =
      more (InString a_key v) inside
      moves in record { rest = t.rest; front = up t.rest refl t.front; behind = t.behind }
  tested w v b false up moves = absurd (cc moves)

  lead_tail : (b : ℕ)
      → Moves (option_map (λ phase. at phase inside) (option_map (InString a_key) (behind_lead b)))
      bs → InStrings a_key Plain inside (b ∷ bs)
  lead_tail b moves =
      go (is_in_range 0xC2 0xDF b) (b == 0xE0) (b == 0xED) (is_in_range 0xE1 0xEF b) (b == 0xF0)
      (is_in_range 0xF1 0xF3 b) (b == 0xF4) refl refl refl refl refl refl refl moves
    where
      up : (v : Within) → ((rest : List ℕ) → Rest v bs rest → CharsTo (b ∷ bs) rest)
          → Reads (InString a_key v) inside bs → InStrings a_key Plain inside (b ∷ bs)
      up v to reads = let t =
          more (InString a_key v) inside
          reads in record { rest = t.rest; front = to t.rest t.front; behind = t.behind }

      put : (n : ℕ) → b ≡ n → (rest : List ℕ) → CharsTo (n ∷ bs) rest → CharsTo (b ∷ bs) rest
      put n is rest to = subst (λ c. CharsTo (c ∷ bs) rest) (sym is) to

      go : (c2 e0 ed e1 f0 f1 f4 : Bool) → is_in_range 0xC2 0xDF b ≡ c2 → (b == 0xE0) ≡ e0
          → (b == 0xED) ≡ ed → is_in_range 0xE1 0xEF b ≡ e1 → (b == 0xF0) ≡ f0
          → is_in_range 0xF1 0xF3 b ≡ f1 → (b == 0xF4) ≡ f4
          → Moves (option_map (λ phase. at phase inside)
          (option_map (InString a_key)
          (cond c2 (Some OneTail)
          (cond e0 (Some BehindE0) (cond ed (Some BehindED) (cond e1 (Some TwoTails)
          (cond f0 (Some BehindF0) (cond f1 (Some ThreeTails) (cond f4 (Some BehindF4) None)))))))))
          bs → InStrings a_key Plain inside (b ∷ bs)
      go true e0 ed e1 f0 f1 f4 is _ _ _ _ _ _ moves = up OneTail (λ rest t. two_to b is t) moves
      go false true ed e1 f0 f1 f4 _ is _ _ _ _ _ moves =
          up BehindE0 (λ rest t. put 0xE0 (equal b 0xE0 is) rest (e0_to t)) moves
      go false false true e1 f0 f1 f4 _ _ is _ _ _ _ moves =
          up BehindED (λ rest t. put 0xED (equal b 0xED is) rest (ed_to t)) moves
      go false false false true f0 f1 f4 _ _ not_ed is _ _ _ moves =
          up TwoTails (λ rest t. three_to b is not_ed t) moves
      go false false false false true f1 f4 _ _ _ _ is _ _ moves =
          up BehindF0 (λ rest t. put 0xF0 (equal b 0xF0 is) rest (f0_to t)) moves
      go false false false false false true f4 _ _ _ _ _ is _ moves =
          up ThreeTails (λ rest t. four_to b is t) moves
      go false false false false false false true _ _ _ _ _ _ is moves =
          up BehindF4 (λ rest t. put 0xF4 (equal b 0xF4 is) rest (f4_to t)) moves
      go false false false false false false false _ _ _ _ _ _ _ moves = absurd (cc moves)

  after_quote : (a_key : Bool) (q : Phase) → behind_string a_key ≡ q → Reads q inside bs
      → AfterString a_key inside bs
  after_quote true _ is reads =
      more BehindKey inside (subst (λ q. Reads q inside bs) (sym is) reads)
  after_quote false _ is reads = more Behind inside (subst (λ q. Reads q inside bs) (sym is) reads)

  plain_tail : (b : ℕ) → Moves (by_phase (InString a_key Plain) inside b) bs
      → InStrings a_key Plain inside (b ∷ bs)
  plain_tail b moves = go (b == 34) (is_plain b) (b == 92) refl refl refl moves
    where
      go : (q p s : Bool) → (b == 34) ≡ q → is_plain b ≡ p → (b == 92) ≡ s
          → Moves (option_map (λ phase. at phase inside)
          (cond q (Some (behind_string a_key))
          (option_map (InString a_key)
          (cond p (Some Plain) (cond s (Some Escape) (behind_lead b)))))) bs
          → InStrings a_key Plain inside (b ∷ bs)
      go true p s is _ _ moves = record {
        rest = bs;
        front = subst (λ c. CharsTo (c ∷ bs) bs) (sym (equal b 34 is))
            (record { pieces = []; are = last_quote });
        behind = after_quote a_key (behind_string a_key) refl moves;
      }
      go false true s _ is _ moves =
          let t = more (InString a_key Plain) inside moves in
          record {
            rest = t.rest;
            front = record {
              pieces = Rattle.vm_json.specs.Grammar.byte b ∷ t.front.pieces;
              are = plain b is t.front.are;
            };
            behind = t.behind;
          }
      go false false true _ _ is moves =
          let t = more (InString a_key Escape) inside moves in
          record {
            rest = t.rest;
            front = subst (λ c. CharsTo (c ∷ bs) t.rest) (sym (equal b 92 is)) t.front;
            behind =
                t.behind;
          }
      go false false false _ _ _ moves = lead_tail b moves

  escape_tail : (b : ℕ) → Moves (by_phase (InString a_key Escape) inside b) bs
      → InStrings a_key Escape inside (b ∷ bs)
  escape_tail b moves = go (b == 117) (unit_of b) refl refl moves
    where
      go : (u : Bool) (o : Option ℕ) → (b == 117) ≡ u → unit_of b ≡ o
          → Moves (option_map (λ phase. at phase inside)
          (option_map (InString a_key) (cond u (Some FourHex) (only (is_some o) Plain)))) bs
          → InStrings a_key Escape inside (b ∷ bs)
      go true o is _ moves =
          let t = more (InString a_key FourHex) inside moves in
          record {
            rest = t.rest;
            front = subst (λ c. CharsTo (92 ∷ c ∷ bs) t.rest) (sym (equal b 117 is))
                (hex_to t.front);
            behind = t.behind;
          }
      go false (Some u) _ is moves =
          let t = more (InString a_key Plain) inside moves in
          record {
            rest = t.rest;
            front = record { pieces = unit u ∷ t.front.pieces; are = letter b u is t.front.are };
            behind = t.behind;
          }
      go false None _ is moves = absurd (cc moves)

  tail_string : (w : Within) (b : ℕ) → Moves (by_phase (InString a_key w) inside b) bs
      → InStrings a_key w inside (b ∷ bs)
  tail_string Plain b moves = plain_tail b moves
  tail_string Escape b moves = escape_tail b moves
  tail_string FourHex b moves =
      tested FourHex ThreeHex b (is_hex b) (λ rest is t. a_hex b is t) moves
  tail_string ThreeHex b moves =
      tested ThreeHex TwoHex b (is_hex b) (λ rest is t. a_hex b is t) moves
  tail_string TwoHex b moves = tested TwoHex OneHex b (is_hex b) (λ rest is t. a_hex b is t) moves
  tail_string OneHex b moves =
      tested OneHex Plain b (is_hex b) (λ rest is t. a_hex b is (no_hex t)) moves
  tail_string OneTail b moves =
      tested OneTail Plain b (is_tail b) (λ rest is t. a_tail b is (no_tail t)) moves
  tail_string TwoTails b moves =
      tested TwoTails OneTail b (is_tail b) (λ rest is t. a_tail b is t) moves
  tail_string ThreeTails b moves =
      tested ThreeTails TwoTails b (is_tail b) (λ rest is t. a_tail b is t) moves
  tail_string BehindE0 b moves =
      tested BehindE0 OneTail b (is_in_range 0xA0 0xBF b) (λ rest is t. narrow b is t) moves
  tail_string BehindED b moves =
      tested BehindED OneTail b (is_in_range 0x80 0x9F b) (λ rest is t. narrow b is t) moves
  tail_string BehindF0 b moves =
      tested BehindF0 TwoTails b (is_in_range 0x90 0xBF b) (λ rest is t. narrow b is t) moves
  tail_string BehindF4 b moves =
      tested BehindF4 TwoTails b (is_in_range 0x80 0x8F b) (λ rest is t. narrow b is t) moves

-- ---- numbers

no_more : {d : Digits} (inside : List Bracket) (text : List ℕ) → Follows d [] → Behinds inside text
    → InNumbers d inside text
no_more inside text follows behinds =
    record { digits = []; rest = text; parts = refl; follows = follows; behind = behinds }

one_more : {d e : Digits} (inside : List Bracket) (b : ℕ) (bs : List ℕ)
    → ((t : List ℕ) → Follows e t → Follows d (b ∷ t)) → InNumbers e inside bs
    → InNumbers d inside (b ∷ bs)
one_more inside b bs up t =
    record {
      digits = b ∷ t.digits;
      rest = t.rest;
      parts = ap (λ u. b ∷ u) t.parts;
      follows = up t.digits t.follows;
      behind = t.behind;
    }

nothing : AfterWhole []
nothing =
    record { f = []; e = []; parts = refl; a_fraction = no_fraction; an_exponent = no_exponent }

none_yet : {P : List ℕ → Type 0} (t : List ℕ) → P t → AfterDigits P t
none_yet t is = record { ds = []; more = t; parts = refl; all = tt; then_more = is }

one_digit : {P : List ℕ → Type 0} (b : ℕ) (t : List ℕ) → IsDigit b → AfterDigits P t
    → AfterDigits P (b ∷ t)
one_digit b t is after =
    record {
      ds = b ∷ after.ds;
      more = after.more;
      parts = ap (λ u. b ∷ u) after.parts;
      all = (is, after.all);
      then_more = after.then_more;
    }

marked : (mark : ℕ) (t : List ℕ) → is_mark mark ≡ true
    → ((m : ℕ) → is_mark m ≡ true → IsExponent (m ∷ t)) → AfterWhole (mark ∷ t)
marked mark t is follows =
    record {
      f = [];
      e = mark ∷ t;
      parts = refl;
      a_fraction = no_fraction;
      an_exponent = follows mark is;
    }

pointed : (b : ℕ) (t : List ℕ) → IsDigit b → AfterDigits IsExponent t → AfterWhole (46 ∷ b ∷ t)
pointed b t is after = record {
  f = 46 ∷ b ∷ after.ds;
  e = after.more;
  parts = ap (λ u. 46 ∷ b ∷ u) after.parts;
  a_fraction = fraction b is after.all;
  an_exponent = after.then_more;
}

-- the digits of a whole number and what follows them
wholes : (b : ℕ) (t : List ℕ) → is_in_range 49 57 b ≡ true → AfterDigits AfterWhole t
    → AfterMinus (b ∷ t)
wholes b t is after =
    record {
      w = b ∷ after.ds;
      more = after.more;
      parts = ap (λ u. b ∷ u) after.parts;
      a_whole = whole b is after.all;
      after = after.then_more;
    }

noughts : (t : List ℕ) → AfterWhole t → AfterMinus (48 ∷ t)
noughts t after = record { w = 48 ∷ []; more = t; parts = refl; a_whole = nought; after = after }

number_to : (t : List ℕ) → AfterMinus t → IsNumber t
number_to t is =
    subst IsNumber (sym (is.parts ∙ ap (λ u. is.w ++ u) is.after.parts))
    (positive is.w is.after.f is.after.e is.a_whole is.after.a_fraction is.after.an_exponent)

minus_to : (t : List ℕ) → AfterMinus t → IsNumber (45 ∷ t)
minus_to t is =
    subst (λ u. IsNumber (45 ∷ u)) (sym (is.parts ∙ ap (λ u. is.w ++ u) is.after.parts))
    (negative is.w is.after.f is.after.e is.a_whole is.after.a_fraction is.after.an_exponent)

-- by the phase that a symbol leads to
abbrev FollowsBehind : Option Digits → List ℕ → Type 0
FollowsBehind None t = ⊥
FollowsBehind (Some d) t = Follows d t

follows_up : (d : Digits) (x : Symbol) (b : ℕ) → Is x b → (t : List ℕ)
    → FollowsBehind (in_digits x d) t → Follows d (b ∷ t)
follows_up Signed _ _ is_nought t f = noughts t f
follows_up Signed _ _ (is_digit b is) t f = wholes b t is f
follows_up Signed _ _ _ t f = absurd f
follows_up Zero _ _ is_point t f = f
follows_up Zero _ _ (is_exp b is) t f = marked b t is f
follows_up Zero _ _ _ t f = absurd f
follows_up Whole _ _ is_nought t f = one_digit 48 t refl f
follows_up Whole _ _ (is_digit b is) t f = one_digit b t (digit_any b is) f
follows_up Whole _ _ is_point t f = none_yet (46 ∷ t) f
follows_up Whole _ _ (is_exp b is) t f = none_yet (b ∷ t) (marked b t is f)
follows_up Whole _ _ _ t f = absurd f
follows_up Bare _ _ is_nought t f = pointed 48 t refl f
follows_up Bare _ _ (is_digit b is) t f = pointed b t (digit_any b is) f
follows_up Bare _ _ _ t f = absurd f
follows_up Fraction _ _ is_nought t f = one_digit 48 t refl f
follows_up Fraction _ _ (is_digit b is) t f = one_digit b t (digit_any b is) f
follows_up Fraction _ _ (is_exp b is) t f = none_yet (b ∷ t) (f b is)
follows_up Fraction _ _ _ t f = absurd f
follows_up Marked _ _ is_nought t f = λ mark is_a_mark. exponent mark 48 is_a_mark refl f
follows_up Marked _ _ (is_digit b is) t f =
    λ mark is_a_mark. exponent mark b is_a_mark (digit_any b is) f
follows_up Marked _ _ is_plus t f = λ mark is_a_mark. f mark 43 is_a_mark refl
follows_up Marked _ _ is_minus t f = λ mark is_a_mark. f mark 45 is_a_mark refl
follows_up Marked _ _ _ t f = absurd f
follows_up MarkSigned _ _ is_nought t f =
    λ mark sign is_a_mark is_a_sign. signed_exponent mark sign 48 is_a_mark is_a_sign refl f
follows_up MarkSigned _ _ (is_digit b is) t f =
    λ mark sign is_a_mark is_a_sign.
    signed_exponent mark sign b is_a_mark is_a_sign (digit_any b is) f
follows_up MarkSigned _ _ _ t f = absurd f
follows_up Power _ _ is_nought t f = (refl, f)
follows_up Power _ _ (is_digit b is) t f = (digit_any b is, f)
follows_up Power _ _ _ t f = absurd f

ends_here : (d : Digits) → may_end d ≡ true → Follows d []
ends_here Zero is = nothing
ends_here Whole is = none_yet [] nothing
ends_here Fraction is = none_yet [] no_exponent
ends_here Power is = tt
ends_here _ is = absurd (cc is)

tail_number : (d : Digits) (inside : List Bracket) (b : ℕ) (bs : List ℕ)
    → Reads (InNumber d) inside (b ∷ bs) → More bs → InNumbers d inside (b ∷ bs)
tail_number d inside b bs reads more = go (in_digits (symbol_of b) d) refl reads
  where
    ended : (m : Bool) → may_end d ≡ m → Moves (cond m (behind inside (symbol_of b)) None) bs
        → InNumbers d inside (b ∷ bs)
    ended true is moves =
        no_more inside (b ∷ bs) (ends_here d is)
        (tail_behind inside (symbol_of b) b bs (symbol_is b) moves more)
    ended false is moves = absurd (cc moves)

    go : (o : Option Digits) → in_digits (symbol_of b) d ≡ o
        → Moves (in_number d inside (symbol_of b) o) bs → InNumbers d inside (b ∷ bs)
    go None is moves = ended (may_end d) refl moves
    go (Some e) is moves =
        one_more inside b bs
        (λ t f. follows_up d (symbol_of b) b (symbol_is b) t
        (subst (λ o. FollowsBehind o t) (sym is) f)) (more (InNumber e) inside moves)

-- ---- words

letter_more : (v w : Word) (n b : ℕ) (inside : List Bracket) (bs : List ℕ) (test : Bool)
    → letters w ≡ n ∷ letters v → (test ≡ true → b ≡ n)
    → Moves (option_map (λ phase. at phase inside) (only test (InWord v))) bs → More bs
    → InWords w inside (b ∷ bs)
letter_more v w n b inside bs true spelled same moves more =
    let t = more (InWord v) inside moves in
    let first = same refl in
    record {
      rest = t.rest;
      parts = ap (λ u. b ∷ u) t.parts
          ∙ ap (λ c. c ∷ (letters v ++ t.rest)) first ∙ ap (λ u. u ++ t.rest) (sym spelled);
      behind =
          t.behind;
    }
letter_more v w n b inside bs false spelled same moves more = absurd (cc moves)

last_letter : (w : Word) (n b : ℕ) (inside : List Bracket) (bs : List ℕ) (test : Bool)
    → letters w ≡ n ∷ [] → (test ≡ true → b ≡ n)
    → Moves (option_map (λ phase. at phase inside) (only test Behind)) bs → More bs
    → InWords w inside (b ∷ bs)
last_letter w n b inside bs true spelled same moves more =
    record {
      rest = bs;
      parts = ap (λ c. c ∷ bs) (same refl) ∙ ap (λ u. u ++ bs) (sym spelled);
      behind = more Behind inside moves;
    }
last_letter w n b inside bs false spelled same moves more = absurd (cc moves)

tail_word : (w : Word) (inside : List Bracket) (b : ℕ) (bs : List ℕ)
    → Reads (InWord w) inside (b ∷ bs) → More bs → InWords w inside (b ∷ bs)
tail_word T inside b bs moves more =
    letter_more Tr T 114 b inside bs (b == 114) refl (equal b 114) moves more
tail_word Tr inside b bs moves more =
    letter_more Tru Tr 117 b inside bs (b == 117) refl (equal b 117) moves more
tail_word Tru inside b bs moves more =
    last_letter Tru 101 b inside bs (b == 101) refl (equal b 101) moves more
tail_word F inside b bs moves more =
    letter_more Fa F 97 b inside bs (b == 97) refl (equal b 97) moves more
tail_word Fa inside b bs moves more =
    letter_more Fal Fa 108 b inside bs (b == 108) refl (equal b 108) moves more
tail_word Fal inside b bs moves more =
    letter_more Fals Fal 115 b inside bs (b == 115) refl (equal b 115) moves more
tail_word Fals inside b bs moves more =
    last_letter Fals 101 b inside bs (b == 101) refl (equal b 101) moves more
tail_word N inside b bs moves more =
    letter_more Nu N 117 b inside bs (b == 117) refl (equal b 117) moves more
tail_word Nu inside b bs moves more =
    letter_more Nul Nu 108 b inside bs (b == 108) refl (equal b 108) moves more
tail_word Nul inside b bs moves more =
    last_letter Nul 108 b inside bs (b == 108) refl (equal b 108) moves more

-- ---- values

-- a value that begins here
begun : (inside : List Bracket) (text : List ℕ) (rest : List ℕ) (x : Json)
    → Value (length inside) text rest x → Behinds inside rest → Wanteds inside text
begun inside text rest x value behinds =
    record { rest = rest; what = x; front = an_item no_space value; behind = behinds }

numbered : (inside : List Bracket) (text digits rest : List ℕ) → text ≡ digits ++ rest
    → IsNumber digits → Behinds inside rest → Wanteds inside text
numbered inside text digits rest parts is behinds =
    subst (Wanteds inside) (sym parts)
    (begun inside (digits ++ rest) rest (number digits) (a_number digits is) behinds)

few_from : (n : ℕ) → nat_lt n 100 ≡ true → n < 100
few_from n is = grind (arith, nat_tests)

opened_tail : (test : Bool) (s : State) (bs : List ℕ) → Moves (only test s) bs → (test ≡ true)
    × Moves (Some s) bs
opened_tail true s bs moves = (refl, moves)
opened_tail false s bs moves = absurd (cc moves)

tail_wanted : (inside : List Bracket) (x : Symbol) (b : ℕ) (bs : List ℕ) → Is x b
    → Moves (wanted inside x) bs → More bs → Wanteds inside (b ∷ bs)
tail_wanted inside _ _ bs (is_white b white) moves more =
    let t = more Wanted inside moves in
    record { rest = t.rest; what = t.what; front = space_item white t.front; behind = t.behind }
tail_wanted inside _ _ bs is_quote moves more =
    let t = more (InString false Plain) inside moves in
    begun inside (34 ∷ bs) t.rest (string t.front.pieces) (a_string t.front.are) t.behind
tail_wanted inside _ _ bs is_begin_array moves more =
    let room = opened_tail (nat_lt (length inside) 100) (at FirstItem (Square ∷ inside)) bs moves in
    let t = more FirstItem (Square ∷ inside) room.1 in
    begun inside (91 ∷ bs) t.rest (array t.what)
    (an_array (few_from (length inside) room.0) t.front) t.behind
tail_wanted inside _ _ bs is_begin_object moves more =
    let room = opened_tail (nat_lt (length inside) 100) (at FirstKey (Curly ∷ inside)) bs moves in
    let t = more FirstKey (Curly ∷ inside) room.1 in
    begun inside (123 ∷ bs) t.rest (object t.what)
    (an_object (few_from (length inside) room.0) t.front) t.behind
tail_wanted inside _ _ bs is_minus moves more =
    let t = more (InNumber Signed) inside moves in
    numbered inside (45 ∷ bs) (45 ∷ t.digits) t.rest (ap (λ u. 45 ∷ u) t.parts)
    (minus_to t.digits t.follows) t.behind
tail_wanted inside _ _ bs is_nought moves more =
    let t = more (InNumber Zero) inside moves in
    numbered inside (48 ∷ bs) (48 ∷ t.digits) t.rest (ap (λ u. 48 ∷ u) t.parts)
    (number_to (48 ∷ t.digits) (noughts t.digits t.follows)) t.behind
tail_wanted inside _ _ bs (is_digit b is) moves more =
    let t = more (InNumber Whole) inside moves in
    numbered inside (b ∷ bs) (b ∷ t.digits) t.rest (ap (λ u. b ∷ u) t.parts)
    (number_to (b ∷ t.digits) (wholes b t.digits is t.follows)) t.behind
tail_wanted inside _ _ bs is_t moves more =
    let t = more (InWord T) inside moves in
    subst (λ u. Wanteds inside (116 ∷ u)) (sym t.parts)
    (begun inside (116 ∷ 114 ∷ 117 ∷ 101 ∷ t.rest) t.rest (boolean true) a_true t.behind)
tail_wanted inside _ _ bs is_f moves more =
    let t = more (InWord F) inside moves in
    subst (λ u. Wanteds inside (102 ∷ u)) (sym t.parts)
    (begun inside (102 ∷ 97 ∷ 108 ∷ 115 ∷ 101 ∷ t.rest) t.rest (boolean false) a_false t.behind)
tail_wanted inside _ _ bs is_n moves more =
    let t = more (InWord N) inside moves in
    subst (λ u. Wanteds inside (110 ∷ u)) (sym t.parts)
    (begun inside (110 ∷ 117 ∷ 108 ∷ 108 ∷ t.rest) t.rest null a_null t.behind)
tail_wanted inside _ _ bs _ moves more = absurd (cc moves)

-- the first item is any item
first_list : (inside : List Bracket) (text : List ℕ) → Wanteds (Square ∷ inside) text
    → FirstItems (Square ∷ inside) text
first_list inside text is =
    let list = listed inside text is in
    record {
      rest = list.rest;
      what = list.what;
      front = some_items list.front;
      behind = list.behind;
    }

tail_first_item : (inside : List Bracket) (x : Symbol) (b : ℕ) (bs : List ℕ) → Is x b
    → Moves (first_item (Square ∷ inside) x) bs → More bs → FirstItems (Square ∷ inside) (b ∷ bs)
tail_first_item inside _ _ bs (is_white b white) moves more =
    let t = more FirstItem (Square ∷ inside) moves in
    record { rest = t.rest; what = t.what; front = space_items white t.front; behind = t.behind }
tail_first_item inside _ _ bs is_end_array moves more =
    record {
      rest = bs;
      what = no_json;
      front = no_items no_space;
      behind = more Behind inside moves;
    }
tail_first_item inside x b bs is moves more =
    first_list inside (b ∷ bs) (tail_wanted (Square ∷ inside) x b bs is moves more)

-- ---- keys

keyed : (inside : List Bracket) (text : List ℕ) → InStrings true Plain (Curly ∷ inside) text
    → Keys (Curly ∷ inside) (34 ∷ text)
keyed inside text t = go t.behind.front
  where
    go : Valued (suc (length inside)) t.rest t.behind.rest t.behind.what
        → Keys (Curly ∷ inside) (34 ∷ text)
    go (valued spaces item) = record {
      rest = t.behind.behind.rest;
      what = one_field t.front.pieces t.behind.what t.behind.behind.what;
      front = member_list (a_member no_space t.front.are spaces item) t.behind.behind.front;
      behind = t.behind.behind.behind;
    }

tail_key : (inside : List Bracket) (x : Symbol) (b : ℕ) (bs : List ℕ) → Is x b
    → Moves (key (Curly ∷ inside) x) bs → More bs → Keys (Curly ∷ inside) (b ∷ bs)
tail_key inside _ _ bs (is_white b white) moves more =
    let t = more Key (Curly ∷ inside) moves in
    record {
      rest = t.rest;
      what = t.what;
      front = space_member_list white t.front;
      behind = t.behind;
    }
tail_key inside _ _ bs is_quote moves more =
    keyed inside bs (more (InString true Plain) (Curly ∷ inside) moves)
tail_key inside _ _ bs _ moves more = absurd (cc moves)

tail_first_key : (inside : List Bracket) (x : Symbol) (b : ℕ) (bs : List ℕ) → Is x b
    → Moves (first_key (Curly ∷ inside) x) bs → More bs → FirstKeys (Curly ∷ inside) (b ∷ bs)
tail_first_key inside _ _ bs (is_white b white) moves more =
    let t = more FirstKey (Curly ∷ inside) moves in
    record { rest = t.rest; what = t.what; front = space_members white t.front; behind = t.behind }
tail_first_key inside _ _ bs is_end_object moves more =
    record {
      rest = bs;
      what = no_field;
      front = no_members no_space;
      behind = more Behind inside moves;
    }
tail_first_key inside _ _ bs is_quote moves more =
    let t = keyed inside bs (more (InString true Plain) (Curly ∷ inside) moves) in
    record { rest = t.rest; what = t.what; front = some_members t.front; behind = t.behind }
tail_first_key inside _ _ bs _ moves more = absurd (cc moves)

tail_behind_key : (inside : List Bracket) (x : Symbol) (b : ℕ) (bs : List ℕ) → Is x b
    → Moves (behind_key (Curly ∷ inside) x) bs → More bs → BehindKeys (Curly ∷ inside) (b ∷ bs)
tail_behind_key inside _ _ bs (is_white b white) moves more =
    let t = more BehindKey (Curly ∷ inside) moves in
    record { rest = t.rest; what = t.what; front = space_valued white t.front; behind = t.behind }
tail_behind_key inside _ _ bs is_colon moves more =
    let t = more Wanted (Curly ∷ inside) moves in
    record { rest = t.rest; what = t.what; front = valued no_space t.front; behind = t.behind }
tail_behind_key inside _ _ bs _ moves more = absurd (cc moves)

-- ---- all phases

tail_on : (p : Phase) (inside : List Bracket) (b : ℕ) (bs : List ℕ) → Reads p inside (b ∷ bs)
    → More bs → Tail p inside (b ∷ bs)
tail_on Wanted inside b bs reads more =
    tail_wanted inside (symbol_of b) b bs (symbol_is b) reads more
tail_on Behind inside b bs reads more =
    tail_behind inside (symbol_of b) b bs (symbol_is b) reads more
tail_on FirstItem (Square ∷ inside) b bs reads more =
    tail_first_item inside (symbol_of b) b bs (symbol_is b) reads more
tail_on FirstItem (Curly ∷ inside) b bs reads more = tt
tail_on FirstItem [] b bs reads more = tt
tail_on FirstKey (Curly ∷ inside) b bs reads more =
    tail_first_key inside (symbol_of b) b bs (symbol_is b) reads more
tail_on FirstKey (Square ∷ inside) b bs reads more = tt
tail_on FirstKey [] b bs reads more = tt
tail_on Key (Curly ∷ inside) b bs reads more =
    tail_key inside (symbol_of b) b bs (symbol_is b) reads more
tail_on Key (Square ∷ inside) b bs reads more = tt
tail_on Key [] b bs reads more = tt
tail_on BehindKey (Curly ∷ inside) b bs reads more =
    tail_behind_key inside (symbol_of b) b bs (symbol_is b) reads more
tail_on BehindKey (Square ∷ inside) b bs reads more = tt
tail_on BehindKey [] b bs reads more = tt
tail_on (InString a_key w) inside b bs reads more = tail_string a_key inside bs more w b reads
tail_on (InNumber d) inside b bs reads more = tail_number d inside b bs reads more
tail_on (InWord w) inside b bs reads more = tail_word w inside b bs reads more

not_zero : (n : ℕ) → (suc n == 0) ≡ false
not_zero n = grind (arith, nat_tests)

number_end : (d : Digits) (inside : List Bracket) (m : Bool) → may_end d ≡ m
    → final (at (InNumber d) inside) ≡ Some tt → InNumbers d inside []
number_end d [] true is reads = no_more [] [] (ends_here d is) no_space
number_end d [] false is reads = let none : final (at (InNumber d) []) ≡ None =
    rw is refl in absurd (cc (none, reads))
number_end d (x ∷ inside) true is reads = let none : final (at (InNumber d) (x ∷ inside)) ≡ None =
    rw (is, not_zero (length inside)) refl in absurd (cc (none, reads))
number_end d (x ∷ inside) false is reads = let none : final (at (InNumber d) (x ∷ inside)) ≡ None =
    rw is refl in absurd (cc (none, reads))

tail_end : (p : Phase) (inside : List Bracket) → Reads p inside [] → Tail p inside []
tail_end Behind [] reads = no_space
tail_end Behind (x ∷ inside) reads = let none : final (at Behind (x ∷ inside)) ≡ None =
    rw (not_zero (length inside)) refl in absurd (cc (none, reads))
tail_end (InNumber d) inside reads = number_end d inside (may_end d) refl reads
tail_end _ inside reads = absurd (cc reads)

tail_of : (text : List ℕ) (p : Phase) (inside : List Bracket) → Reads p inside text
    → Tail p inside text
tail_of [] p inside reads = tail_end p inside reads
tail_of (b ∷ bs) p inside reads = tail_on p inside b bs reads (tail_of bs)

pub json_from_read : (text : List ℕ) → Reads Wanted [] text → (x : Json) × Spells text x
json_from_read text reads = let t =
    tail_of text Wanted [] reads in (t.what, spells t.front t.behind)
