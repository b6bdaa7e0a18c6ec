-- What is in the grammar is read by the machine.
use Rattle.std.specs.Prelude.{◌≡◌, ◌==◌, ℕ, suc, ◌<◌, ◌≤◌, nat_lt, cond, Bool, true, false, List, [], ◌∷◌, ◌++◌, length, Option, Some, None, option_and_then}
use Rattle.std.specs.Int.{is_in_range}
use Rattle.std.specs.Option.{option_map}
use Rattle.std.proofs.Common.{refl, arith, sym, ap, subst, ◌∙◌, inl, inr, append_assoc, lt-ltb}
use Rattle.std.proofs.lemmas.Bool.Decides.{nat_tests}
use Rattle.vm_base.specs.Run.{run}
use Rattle.vm_json.specs.Grammar.{is_plain, is_tail, is_hex, unit_of, IsDigit, IsDigits, IsWhole, nought, whole, IsFraction, no_fraction, fraction, IsExponent, no_exponent, exponent, signed_exponent, IsNumber, positive, negative, IsWide, two, three_e0, three_low, three_ed, three_high, four_f0, four, four_f4, Chars, last_quote, plain, wide, letter, hex, Piece, Json, Jsons, Fields, Spaces, Value, a_null, a_true, a_false, a_number, a_string, an_array, an_object, Item, an_item, Items, no_items, some_items, ItemList, item_list, MoreItems, no_more_items, more_items, Member, a_member, Members, no_members, some_members, MemberList, member_list, MoreMembers, no_more_members, more_members, Spells, spells}
use Rattle.vm_json.specs.Machine.{State, at, symbol_of, by_phase, step, final, wanted, first_item, first_key, key, behind_key, behind, in_number, in_digits, may_end, in_string, behind_string, behind_lead, next_within, is_last, only}
use Rattle.vm_json.specs.declared.nesting.Bracket.{Bracket}
use Rattle.vm_json.specs.declared.nesting.Bracket.TheVariants.{Square, Curly}
use Rattle.vm_json.specs.declared.phase.Phase.{Phase}
use Rattle.vm_json.specs.declared.phase.Phase.TheVariants.{Wanted, FirstItem, FirstKey, Key, BehindKey, Behind, InString, InNumber}
use Rattle.vm_json.specs.declared.phase.Digits.{Digits}
use Rattle.vm_json.specs.declared.phase.Digits.TheVariants.{Signed, Zero, Whole, Bare, Fraction, Marked, MarkSigned, Power}
use Rattle.vm_json.specs.declared.phase.Symbol.{Symbol}
use Rattle.vm_json.specs.declared.phase.Symbol.TheVariants.{Space, EndArray, EndObject, Comma, Minus, Plus, Point, Nought, Digit, Mark}
use Rattle.vm_json.specs.declared.string_machine.Within.{Within}
use Rattle.vm_json.specs.declared.string_machine.Within.TheVariants.{Plain, Escape, FourHex, ThreeHex, TwoHex, OneHex, OneTail, TwoTails, ThreeTails, BehindE0, BehindED, BehindF0, BehindF4}
use Rattle.vm_json.proofs.Symbols.{Reads, Moves, on, spaced, digit_symbol, space_symbol, mark_symbol, sign_symbol, any_digit, equal}

-- ---- numbers

-- what may follow a number
abbrev is_end : Symbol → Bool
is_end Space = true
is_end Comma = true
is_end EndArray = true
is_end EndObject = true
is_end _ = false

end_from_behind : (inside : List Bracket) (x : Symbol) (t : State) → behind inside x ≡ Some t
    → is_end x ≡ true
end_from_behind inside Space t is = refl
end_from_behind inside Comma t is = refl
end_from_behind inside EndArray t is = refl
end_from_behind inside EndObject t is = refl
end_from_behind [] _ t is = absurd (cc is)
end_from_behind (Square ∷ inside) _ t is = absurd (cc is)
end_from_behind (Curly ∷ inside) _ t is = absurd (cc is)

ends_digits : (d : Digits) (x : Symbol) → is_end x ≡ true → in_digits x d ≡ None
ends_digits d Space is = refl
ends_digits d Comma is = refl
ends_digits d EndArray is = refl
ends_digits d EndObject is = refl
ends_digits d _ is = absurd (cc is)

-- where a number may end, what follows a value may follow
pub ended_number : (d : Digits) (inside : List Bracket) (text : List ℕ) → may_end d ≡ true
    → Reads Behind inside text → Reads (InNumber d) inside text
ended_number d inside [] done reads = rw done reads
ended_number d inside (b ∷ bs) done reads = go (behind inside (symbol_of b)) refl reads
  where
    go : (o : Option State) → behind inside (symbol_of b) ≡ o → Moves o bs
        → Reads (InNumber d) inside (b ∷ bs)
    go None is moves = absurd (cc moves)
    go (Some t) is moves =
        let none = ends_digits d (symbol_of b) (end_from_behind inside (symbol_of b) t is) in
        let here : by_phase (InNumber d) inside b ≡ Some t =
        ap (in_number d inside (symbol_of b)) none
        ∙ ap (λ yes. cond yes (behind inside (symbol_of b)) None) done ∙ is in
        ap (λ o. option_and_then final (option_and_then (λ u. run step u bs) o)) here ∙ moves

digit_move : (d e : Digits) (inside : List Bracket) (b : ℕ) → in_digits Nought d ≡ Some e
    → in_digits Digit d ≡ Some e → IsDigit b
    → by_phase (InNumber d) inside b ≡ Some (at (InNumber e) inside)
digit_move d e inside b nought_is digit_is is = elim (any_digit b is) [
  | inl same ↦ rw same (ap (in_number d inside Nought) nought_is)
  | inr other ↦ ap (λ x. in_number d inside x (in_digits x d)) (digit_symbol b other)
      ∙ ap (in_number d inside Digit) digit_is
]

symbol_move : (d e : Digits) (inside : List Bracket) (b : ℕ) (x : Symbol) → symbol_of b ≡ x
    → in_digits x d ≡ Some e
    → by_phase (InNumber d) inside b ≡ Some (at (InNumber e) inside)
symbol_move d e inside b x is moves =
    ap (λ y. in_number d inside y (in_digits y d)) is ∙ ap (in_number d inside x) moves

module _ (inside : List Bracket) (rest : List ℕ) (reads : Reads Behind inside rest) where
  more_digits : (d : Digits) (ds text : List ℕ) → in_digits Nought d ≡ Some d
      → in_digits Digit d ≡ Some d → IsDigits ds
      → Reads (InNumber d) inside text → Reads (InNumber d) inside (ds ++ text)
  more_digits d [] text zero_is digit_is all goes = goes
  more_digits d (b ∷ ds) text zero_is digit_is all goes =
      on (InNumber d) (InNumber d) inside inside b (ds ++ text)
      (digit_move d d inside b zero_is digit_is all.0)
      (more_digits d ds text zero_is digit_is all.1 goes)

  power : (d : Digits) (b : ℕ) (ds : List ℕ) → in_digits Nought d ≡ Some Power
      → in_digits Digit d ≡ Some Power → IsDigit b → IsDigits ds
      → Reads (InNumber d) inside (b ∷ (ds ++ rest))
  power d b ds zero_is digit_is first all =
      on (InNumber d) (InNumber Power) inside inside b (ds ++ rest)
      (digit_move d Power inside b zero_is digit_is first)
      (more_digits Power ds rest refl refl all (ended_number Power inside rest refl reads))

  exponent_read : (d : Digits) (e : List ℕ) → may_end d ≡ true → in_digits Mark d ≡ Some Marked
      → IsExponent e → Reads (InNumber d) inside (e ++ rest)
  exponent_read d _ done marks no_exponent = ended_number d inside rest done reads
  exponent_read d _ done marks (exponent {ds = ds} mark b is_a_mark first all) =
      on (InNumber d) (InNumber Marked) inside inside mark (b ∷ (ds ++ rest))
      (symbol_move d Marked inside mark Mark (mark_symbol mark is_a_mark) marks)
      (power Marked b ds refl refl first all)
  exponent_read d _ done marks
      (signed_exponent {ds = ds} mark sign b is_a_mark is_a_sign first all) =
      on (InNumber d) (InNumber Marked) inside inside mark (sign ∷ b ∷ (ds ++ rest))
      (symbol_move d Marked inside mark Mark (mark_symbol mark is_a_mark) marks)
      (on (InNumber Marked) (InNumber MarkSigned) inside inside sign (b ∷ (ds ++ rest))
      (elim (sign_symbol sign is_a_sign) [
        | inl is ↦
            symbol_move Marked MarkSigned inside sign Plus is refl
        | inr is ↦ symbol_move Marked MarkSigned inside sign Minus is refl
      ])
      (power MarkSigned b ds refl refl first all))

  fraction_read : (d : Digits) (f e : List ℕ) → may_end d ≡ true → in_digits Mark d ≡ Some Marked
      → in_digits Point d ≡ Some Bare → IsFraction f → IsExponent e
      → Reads (InNumber d) inside (f ++ (e ++ rest))
  fraction_read d _ e done marks points no_fraction an_exponent =
      exponent_read d e done marks an_exponent
  fraction_read d _ e done marks points (fraction {ds = ds} b first all) an_exponent =
      on (InNumber d) (InNumber Bare) inside inside 46 (b ∷ (ds ++ (e ++ rest)))
      (symbol_move d Bare inside 46 Point refl points)
      (on (InNumber Bare) (InNumber Fraction) inside inside b (ds ++ (e ++ rest))
      (digit_move Bare Fraction inside b refl refl first)
      (more_digits Fraction ds (e ++ rest) refl refl all
      (exponent_read Fraction e refl refl an_exponent)))

  whole_read : (p : Phase) (w f e : List ℕ)
      → ((b : ℕ) → symbol_of b ≡ Nought → by_phase p inside b ≡ Some (at (InNumber Zero) inside))
      → ((b : ℕ) → symbol_of b ≡ Digit → by_phase p inside b ≡ Some (at (InNumber Whole) inside))
      → IsWhole w → IsFraction f → IsExponent e
      → Reads p inside (w ++ (f ++ (e ++ rest)))
  whole_read p _ f e zeros digits nought a_fraction an_exponent =
      on p (InNumber Zero) inside inside 48 (f ++ (e ++ rest)) (zeros 48 refl)
      (fraction_read Zero f e refl refl refl a_fraction an_exponent)
  whole_read p _ f e zeros digits (whole {ds = ds} b first all) a_fraction an_exponent =
      on p (InNumber Whole) inside inside b (ds ++ (f ++ (e ++ rest)))
      (digits b (digit_symbol b first))
      (more_digits Whole ds (f ++ (e ++ rest)) refl refl all
      (fraction_read Whole f e refl refl refl a_fraction an_exponent))

  parts : (w f e : List ℕ) → (w ++ (f ++ e)) ++ rest ≡ w ++ (f ++ (e ++ rest))
  parts w f e = simp append_assoc

  number_read : (digits : List ℕ) → IsNumber digits → Reads Wanted inside (digits ++ rest)
  number_read _ (positive w f e a_whole a_fraction an_exponent) =
      subst (Reads Wanted inside) (sym (parts w f e))
      (whole_read Wanted w f e (λ b is. ap (wanted inside) is) (λ b is. ap (wanted inside) is)
      a_whole a_fraction an_exponent)
  number_read _ (negative w f e a_whole a_fraction an_exponent) =
      subst (λ t. Reads Wanted inside (45 ∷ t)) (sym (parts w f e))
      (whole_read (InNumber Signed) w f e (λ b is. symbol_move Signed Zero inside b Nought is refl)
      (λ b is. symbol_move Signed Whole inside b Digit is refl) a_whole a_fraction an_exponent)

-- ---- strings

module _ (inside : List Bracket) (a_key : Bool) where
  string_move : (w v : Within) (b : ℕ) → in_string a_key w b ≡ Some (InString a_key v)
      → by_phase (InString a_key w) inside b ≡ Some (at (InString a_key v) inside)
  string_move w v b moves = ap (option_map (λ phase. at phase inside)) moves

  to : (w v : Within) (b : ℕ) (text : List ℕ) → in_string a_key w b ≡ Some (InString a_key v)
      → Reads (InString a_key v) inside text → Reads (InString a_key w) inside (b ∷ text)
  to w v b text moves reads =
      on (InString a_key w) (InString a_key v) inside inside b text (string_move w v b moves) reads

  plain_move : (b : ℕ) → is_plain b ≡ true → in_string a_key Plain b ≡ Some (InString a_key Plain)
  plain_move b is = let quote : (b == 34) ≡ false = grind (arith, nat_tests) in rw (is, quote) refl

  lead_move : (b : ℕ) (v : Within) → 128 ≤ b → behind_lead b ≡ Some v
      → in_string a_key Plain b ≡ Some (InString a_key v)
  lead_move b v high is =
      let quote : (b == 34) ≡ false = grind (arith, nat_tests) in
      let no_plain : is_plain b ≡ false = grind (arith, nat_tests) in
      let slash : (b == 92) ≡ false = grind (arith, nat_tests) in
      rw (no_plain, quote, slash) (ap (option_map (InString a_key)) is)

  tail : (v w : Within) (b : ℕ) (text : List ℕ) (test : Bool) → (next_within w b ≡ only test v)
      → test ≡ true → (is_last w b ≡ false)
      → Reads (InString a_key v) inside text → Reads (InString a_key w) inside (b ∷ text)
  tail v w b text test moves is not_last reads =
      to w v b text (rw (not_last, moves, is) refl) reads

  wide_read : (c text : List ℕ) → IsWide c → Reads (InString a_key Plain) inside text
      → Reads (InString a_key Plain) inside (c ++ text)
  wide_read _ text (two a b first second) reads =
      let high : 128 ≤ a = grind (arith, nat_tests) in
      to Plain OneTail a (b ∷ text) (lead_move a OneTail high (rw first refl))
      (tail Plain OneTail b text (is_tail b) refl second refl reads)
  wide_read _ text (three_e0 b c second third) reads =
      tail OneTail BehindE0 b (c ∷ text) (is_in_range 0xA0 0xBF b) refl second refl
      (tail Plain OneTail c text (is_tail c) refl third refl reads)
  wide_read _ text (three_ed b c second third) reads =
      tail OneTail BehindED b (c ∷ text) (is_in_range 0x80 0x9F b) refl second refl
      (tail Plain OneTail c text (is_tail c) refl third refl reads)
  wide_read _ text (three_low a b c first second third) reads =
      let high : 128 ≤ a = grind (arith, nat_tests) in
      to Plain TwoTails a (b ∷ c ∷ text) (lead_move a TwoTails high (low_lead a first))
      (tail OneTail TwoTails b (c ∷ text) (is_tail b) refl second refl
      (tail Plain OneTail c text (is_tail c) refl third refl reads))
    where
      low_lead : (a : ℕ) → is_in_range 0xE1 0xEC a ≡ true → behind_lead a ≡ Some TwoTails
      low_lead a is =
          let two_not : is_in_range 0xC2 0xDF a ≡ false = grind (arith, nat_tests) in
          let e0 : (a == 0xE0) ≡ false = grind (arith, nat_tests) in
          let ed : (a == 0xED) ≡ false = grind (arith, nat_tests) in
          let yes : is_in_range 0xE1 0xEF a ≡ true = grind (arith, nat_tests) in
          rw (two_not, e0, ed, yes) refl
  wide_read _ text (three_high a b c first second third) reads =
      let high : 128 ≤ a = grind (arith, nat_tests) in
      to Plain TwoTails a (b ∷ c ∷ text) (lead_move a TwoTails high (high_lead a first))
      (tail OneTail TwoTails b (c ∷ text) (is_tail b) refl second refl
      (tail Plain OneTail c text (is_tail c) refl third refl reads))
    where
      high_lead : (a : ℕ) → is_in_range 0xEE 0xEF a ≡ true → behind_lead a ≡ Some TwoTails
      high_lead a is =
          let two_not : is_in_range 0xC2 0xDF a ≡ false = grind (arith, nat_tests) in
          let e0 : (a == 0xE0) ≡ false = grind (arith, nat_tests) in
          let ed : (a == 0xED) ≡ false = grind (arith, nat_tests) in
          let yes : is_in_range 0xE1 0xEF a ≡ true = grind (arith, nat_tests) in
          rw (two_not, e0, ed, yes) refl
  wide_read _ text (four_f0 b c d second third fourth) reads =
      tail TwoTails BehindF0 b (c ∷ d ∷ text) (is_in_range 0x90 0xBF b) refl second refl
      (tail OneTail TwoTails c (d ∷ text) (is_tail c) refl third refl
      (tail Plain OneTail d text (is_tail d) refl fourth refl reads))
  wide_read _ text (four_f4 b c d second third fourth) reads =
      tail TwoTails BehindF4 b (c ∷ d ∷ text) (is_in_range 0x80 0x8F b) refl second refl
      (tail OneTail TwoTails c (d ∷ text) (is_tail c) refl third refl
      (tail Plain OneTail d text (is_tail d) refl fourth refl reads))
  wide_read _ text (four a b c d first second third fourth) reads =
      let high : 128 ≤ a = grind (arith, nat_tests) in
      to Plain ThreeTails a (b ∷ c ∷ d ∷ text) (lead_move a ThreeTails high (lead a first))
      (tail TwoTails ThreeTails b (c ∷ d ∷ text) (is_tail b) refl second refl
      (tail OneTail TwoTails c (d ∷ text) (is_tail c) refl third refl
      (tail Plain OneTail d text (is_tail d) refl fourth refl reads)))
    where
      lead : (a : ℕ) → is_in_range 0xF1 0xF3 a ≡ true → behind_lead a ≡ Some ThreeTails
      lead a is =
          let two_not : is_in_range 0xC2 0xDF a ≡ false = grind (arith, nat_tests) in
          let e0 : (a == 0xE0) ≡ false = grind (arith, nat_tests) in
          let ed : (a == 0xED) ≡ false = grind (arith, nat_tests) in
          let three : is_in_range 0xE1 0xEF a ≡ false = grind (arith, nat_tests) in
          let f0 : (a == 0xF0) ≡ false = grind (arith, nat_tests) in
          rw (two_not, e0, ed, three, f0, is) refl

  letter_move : (b u : ℕ) → unit_of b ≡ Some u
      → in_string a_key Escape b ≡ Some (InString a_key Plain)
  letter_move b u is = go (b == 117) refl
    where
      go : (t : Bool) → (b == 117) ≡ t → in_string a_key Escape b ≡ Some (InString a_key Plain)
      go true same = let none : unit_of b ≡ None =
          ap unit_of (equal b 117 same) in absurd (cc (is, none))
      go false other = rw (other, is) refl

  chars_read : {text rest : List ℕ} {ps : List Piece} → Chars text rest ps
      → Reads (behind_string a_key) inside rest → Reads (InString a_key Plain) inside text
  chars_read last_quote reads = reads
  chars_read (plain {text = text} b is more) reads =
      to Plain Plain b text (plain_move b is) (chars_read more reads)
  chars_read (wide {text = text} c is more) reads = wide_read c text is (chars_read more reads)
  chars_read (letter {text = text} b u is more) reads =
      to Escape Plain b text (letter_move b u is) (chars_read more reads)
  chars_read (hex {text = text} a b c d is_a is_b is_c is_d more) reads =
      tail ThreeHex FourHex a (b ∷ c ∷ d ∷ text) (is_hex a) refl is_a refl
      (tail TwoHex ThreeHex b (c ∷ d ∷ text) (is_hex b) refl is_b refl
      (tail OneHex TwoHex c (d ∷ text) (is_hex c) refl is_c refl
      (tail Plain OneHex d text (is_hex d) refl is_d refl (chars_read more reads))))

-- ---- values

-- after a bracket the same may come, and more
first_item_read : (inside : List Bracket) (text : List ℕ) → Reads Wanted inside text
    → Reads FirstItem inside text
first_item_read inside [] reads = absurd (cc reads)
first_item_read inside (b ∷ bs) reads = go (symbol_of b) reads (first_item_read inside bs)
  where
    go : (x : Symbol) → Moves (wanted inside x) bs
        → (Reads Wanted inside bs → Reads FirstItem inside bs) → Moves (first_item inside x) bs
    go Space moves more = more moves
    go EndArray moves more = absurd (cc moves)
    go _ moves more = moves

first_key_read : (inside : List Bracket) (text : List ℕ) → Reads Key inside text
    → Reads FirstKey inside text
first_key_read inside [] reads = absurd (cc reads)
first_key_read inside (b ∷ bs) reads = go (symbol_of b) reads (first_key_read inside bs)
  where
    go : (x : Symbol) → Moves (key inside x) bs → (Reads Key inside bs → Reads FirstKey inside bs)
        → Moves (first_key inside x) bs
    go Space moves more = more moves
    go EndObject moves more = absurd (cc moves)
    go _ moves more = moves

module _ (inside : List Bracket) where
  wanted_spaces : {text rest : List ℕ} → Spaces text rest → Reads Wanted inside rest
      → Reads Wanted inside text
  wanted_spaces = spaced Wanted inside (λ b is. ap (wanted inside) (space_symbol b is))

  pub behind_spaces : {text rest : List ℕ} → Spaces text rest → Reads Behind inside rest
      → Reads Behind inside text
  behind_spaces = spaced Behind inside (λ b is. ap (behind inside) (space_symbol b is))

  first_item_spaces : {text rest : List ℕ} → Spaces text rest → Reads FirstItem inside rest
      → Reads FirstItem inside text
  first_item_spaces = spaced FirstItem inside (λ b is. ap (first_item inside) (space_symbol b is))

  first_key_spaces : {text rest : List ℕ} → Spaces text rest → Reads FirstKey inside rest
      → Reads FirstKey inside text
  first_key_spaces = spaced FirstKey inside (λ b is. ap (first_key inside) (space_symbol b is))

  key_spaces : {text rest : List ℕ} → Spaces text rest → Reads Key inside rest
      → Reads Key inside text
  key_spaces = spaced Key inside (λ b is. ap (key inside) (space_symbol b is))

  colon_spaces : {text rest : List ℕ} → Spaces text rest → Reads BehindKey inside rest
      → Reads BehindKey inside text
  colon_spaces = spaced BehindKey inside (λ b is. ap (behind_key inside) (space_symbol b is))

opened_move : (inside : List Bracket) (phase : Phase) (bracket : Bracket) (n : ℕ)
    → n ≡ length inside → n < 100
    → only (nat_lt (length inside) 100) (at phase (bracket ∷ inside))
    ≡ Some (at phase (bracket ∷ inside))
opened_move inside phase bracket n same few =
    let fits : length inside < 100 = omega arith in rw (lt-ltb (length inside) 100 fits) refl

mutual
  value_read : (inside : List Bracket) {n : ℕ} {text rest : List ℕ} {x : Json} → n ≡ length inside
      → Value n text rest x → Reads Behind inside rest → Reads Wanted inside text
  value_read inside same a_null reads = reads
  value_read inside same a_true reads = reads
  value_read inside same a_false reads = reads
  value_read inside same (a_number {rest = rest} digits is) reads =
      number_read inside rest reads digits is
  value_read inside same (a_string is) reads = chars_read inside false is reads
  value_read inside same (an_array {n = n} {text = text} few is) reads =
      on Wanted FirstItem inside (Square ∷ inside) 91 text
      (opened_move inside FirstItem Square n same few)
      (items_read inside (ap suc same) is reads)
  value_read inside same (an_object {n = n} {text = text} few is) reads =
      on Wanted FirstKey inside (Curly ∷ inside) 123 text
      (opened_move inside FirstKey Curly n same few)
      (members_read inside (ap suc same) is reads)

  item_read : (inside : List Bracket) {n : ℕ} {text rest : List ℕ} {x : Json} → n ≡ length inside
      → Item n text rest x → Reads Behind inside rest → Reads Wanted inside text
  item_read inside same (an_item spaces value) reads =
      wanted_spaces inside spaces (value_read inside same value reads)

  items_read : (inside : List Bracket) {n : ℕ} {text rest : List ℕ} {xs : Jsons}
      → n ≡ suc (length inside) → Items n text rest xs → Reads Behind inside rest
      → Reads FirstItem (Square ∷ inside) text
  items_read inside same (no_items spaces) reads = first_item_spaces (Square ∷ inside) spaces reads
  items_read inside same (some_items {text = text} list) reads =
      first_item_read (Square ∷ inside) text (item_list_read inside same list reads)

  item_list_read : (inside : List Bracket) {n : ℕ} {text rest : List ℕ} {xs : Jsons}
      → n ≡ suc (length inside) → ItemList n text rest xs → Reads Behind inside rest
      → Reads Wanted (Square ∷ inside) text
  item_list_read inside same (item_list item more) reads =
      item_read (Square ∷ inside) same item (more_items_read inside same more reads)

  more_items_read : (inside : List Bracket) {n : ℕ} {text rest : List ℕ} {xs : Jsons}
      → n ≡ suc (length inside) → MoreItems n text rest xs → Reads Behind inside rest
      → Reads Behind (Square ∷ inside) text
  more_items_read inside same (no_more_items spaces) reads =
      behind_spaces (Square ∷ inside) spaces reads
  more_items_read inside same (more_items spaces list) reads =
      behind_spaces (Square ∷ inside) spaces (item_list_read inside same list reads)

  member_read : (inside : List Bracket) {n : ℕ} {text rest : List ℕ} {ps : List Piece} {x : Json}
      → n ≡ length inside → Member n text rest ps x → Reads Behind inside rest
      → Reads Key inside text
  member_read inside same (a_member spaces chars colons item) reads =
      key_spaces inside spaces
      (chars_read inside true chars
      (colon_spaces inside colons (item_read inside same item reads)))

  members_read : (inside : List Bracket) {n : ℕ} {text rest : List ℕ} {fs : Fields}
      → n ≡ suc (length inside) → Members n text rest fs → Reads Behind inside rest
      → Reads FirstKey (Curly ∷ inside) text
  members_read inside same (no_members spaces) reads =
      first_key_spaces (Curly ∷ inside) spaces reads
  members_read inside same (some_members {text = text} list) reads =
      first_key_read (Curly ∷ inside) text (member_list_read inside same list reads)

  member_list_read : (inside : List Bracket) {n : ℕ} {text rest : List ℕ} {fs : Fields}
      → n ≡ suc (length inside) → MemberList n text rest fs → Reads Behind inside rest
      → Reads Key (Curly ∷ inside) text
  member_list_read inside same (member_list member more) reads =
      member_read (Curly ∷ inside) same member (more_members_read inside same more reads)

  more_members_read : (inside : List Bracket) {n : ℕ} {text rest : List ℕ} {fs : Fields}
      → n ≡ suc (length inside) → MoreMembers n text rest fs → Reads Behind inside rest
      → Reads Behind (Curly ∷ inside) text
  more_members_read inside same (no_more_members spaces) reads =
      behind_spaces (Curly ∷ inside) spaces reads
  more_members_read inside same (more_members spaces list) reads =
      behind_spaces (Curly ∷ inside) spaces (member_list_read inside same list reads)

pub json_read : (text : List ℕ) (x : Json) → Spells text x → Reads Wanted [] text
json_read text x (spells item spaces) = item_read [] refl item (behind_spaces [] spaces refl)
