-- Where no half of a pair of UTF-16 stands alone in a text, none does in its strings.
use Rattle.std.proofs.Common.{◌≡◌, ℕ, Bool, true, false, cond, List, [], ◌∷◌, ◌++◌, Option, Some, None, refl, ap, sym, ◌∙◌, arith}
use Rattle.std.specs.Prelude.{◌==◌, ◌&&◌, option_map, is_some, encode_utf8}
use Rattle.std.specs.List.{AllByRecursion}
use Rattle.std.proofs.lemmas.Bool.Decides.{nat_tests}
use Rattle.vm_json.specs.Grammar.{is_space, Chars, Piece, byte, unit, Json, Jsons, Fields, Spaces, no_space, a_space, Value, a_null, a_true, a_false, a_number, a_string, an_array, an_object, Item, an_item, Items, no_items, some_items, ItemList, item_list, MoreItems, no_more_items, more_items, Member, a_member, Members, no_members, some_members, MemberList, member_list, MoreMembers, no_more_members, more_members}
use Rattle.vm_jsonline.specs.Series.{has_texts, have_texts, fields_have_texts}
use Rattle.vm_jsonline.specs.Strings.{is_high, is_low, joined, is_char, with_char, text_from, text_of, pieces, raw_text}
use Rattle.vm_jsonline.specs.declared.strings.Pending.TheVariants.{Nothing}
use Rattle.vm_jsonline.proofs.PartLaws.{IsNumberByte, AreNumberBytes, number_bytes}
use Rattle.vm_jsonline.proofs.StringLaws.{chars_at}

-- whether a text has no half alone
abbrev pub Whole : List ℕ → Bool
Whole text = is_some (raw_text text)

some_map : (f : List ℕ → List ℕ) (o : Option (List ℕ)) → is_some (option_map f o) ≡ is_some o
some_map f None = refl
some_map f (Some t) = refl

no_slash : (b : ℕ) (more : List ℕ) → (b == 92) ≡ false → Whole (b ∷ more) ≡ Whole more
no_slash b more is = rw is (some_map (λ t. b ∷ t) (raw_text more))

abbrev NoSlashes : List ℕ → Type 0
NoSlashes = AllByRecursion (λ b. (b == 92) ≡ false)

no_slashes : (front rest : List ℕ) → NoSlashes front → Whole (front ++ rest) ≡ Whole rest
no_slashes [] rest all = refl
no_slashes (b ∷ front) rest all = no_slash b (front ++ rest) all.0 ∙ no_slashes front rest all.1

number_slash : (b : ℕ) → IsNumberByte b → (b == 92) ≡ false
number_slash b is = grind (arith, nat_tests)

number_slashes : (digits : List ℕ) → AreNumberBytes digits → NoSlashes digits
number_slashes [] all = tt
number_slashes (b ∷ digits) all = (number_slash b all.0, number_slashes digits all.1)

space_slash : (b : ℕ) → is_space b ≡ true → (b == 92) ≡ false
space_slash b is = grind (arith, nat_tests)

spaces_whole : {text rest : List ℕ} → Spaces text rest → Whole text ≡ Whole rest
spaces_whole no_space = refl
spaces_whole (a_space {text = text} b is more) = no_slash b text (space_slash b is)
    ∙ spaces_whole more

-- ---- strings

apart : (c : ℕ) (o p : Option (List ℕ)) (q : Bool) → is_some o ≡ (is_some p && q)
    → is_some (with_char c o) ≡ (is_some (with_char c p) && q)
apart c o p q is = go (is_char c)
  where
    go : (t : Bool)
        → is_some (cond t (option_map (λ u. encode_utf8 c ++ u) o) None)
        ≡ (is_some (cond t (option_map (λ u. encode_utf8 c ++ u) p) None) && q)
    go true = some_map (λ u. encode_utf8 c ++ u) o ∙ is
        ∙ ap (λ r. r && q) (sym (some_map (λ u. encode_utf8 c ++ u) p))
    go false = refl

two_parts : (h : Option ℕ) (ps qs : List Piece)
    → is_some (text_from h (ps ++ byte 34 ∷ qs))
    ≡ (is_some (text_from h ps) && is_some (text_from None qs))
two_parts None [] qs = some_map (λ t. 34 ∷ t) (text_from None qs)
two_parts (Some h) [] qs = refl
two_parts None (byte b ∷ ps) qs =
    some_map (λ t. b ∷ t) (text_from None (ps ++ byte 34 ∷ qs)) ∙ two_parts None ps qs
    ∙ ap (λ r. r && is_some (text_from None qs)) (sym (some_map (λ t. b ∷ t) (text_from None ps)))
two_parts (Some h) (byte b ∷ ps) qs = refl
two_parts None (unit u ∷ ps) qs = go (is_high u) (two_parts (Some u) ps qs) (two_parts None ps qs)
  where
    go : (t : Bool)
        → is_some (text_from (Some u) (ps ++ byte 34 ∷ qs))
        ≡ (is_some (text_from (Some u) ps) && is_some (text_from None qs))
        → is_some (text_from None (ps ++ byte 34 ∷ qs))
        ≡ (is_some (text_from None ps) && is_some (text_from None qs))
        → is_some
        (cond t (text_from (Some u) (ps ++ byte 34 ∷ qs))
        (with_char u (text_from None (ps ++ byte 34 ∷ qs))))
        ≡ (is_some (cond t (text_from (Some u) ps) (with_char u (text_from None ps)))
        && is_some (text_from None qs))
    go true high low = high
    go false high low =
        apart u (text_from None (ps ++ byte 34 ∷ qs)) (text_from None ps)
        (is_some (text_from None qs)) low
two_parts (Some h) (unit u ∷ ps) qs = go (is_low u) (two_parts None ps qs)
  where
    go : (t : Bool)
        → is_some (text_from None (ps ++ byte 34 ∷ qs))
        ≡ (is_some (text_from None ps) && is_some (text_from None qs))
        → is_some (cond t (with_char (joined h u) (text_from None (ps ++ byte 34 ∷ qs))) None)
        ≡ (is_some (cond t (with_char (joined h u) (text_from None ps)) None)
        && is_some (text_from None qs))
    go true low =
        apart (joined h u) (text_from None (ps ++ byte 34 ∷ qs)) (text_from None ps)
        (is_some (text_from None qs)) low
    go false low = refl

string_whole : {text rest : List ℕ} {ps : List Piece} → Chars text rest ps
    → Whole (34 ∷ text) ≡ (is_some (text_of ps) && Whole rest)
string_whole {text = text} {rest = rest} {ps = ps} chars =
    let s = chars_at chars in
    no_slash 34 text refl
    ∙ ap Whole s.parts
    ∙ ap (λ p. is_some (text_of p)) (s.pieces_are (34 ∷ rest))
    ∙ two_parts None ps (pieces Nothing rest)

-- ---- values

and_assoc : (a b c : Bool) → (a && (b && c)) ≡ ((a && b) && c)
and_assoc true b c = refl
and_assoc false b c = refl

-- one after the other
after : (a b r : Bool) {t : Bool} (m : Bool) → t ≡ (a && m) → m ≡ (b && r) → t ≡ ((a && b) && r)
after a b r m first second = first ∙ ap (λ x. a && x) second ∙ and_assoc a b r

mutual
  value_whole : {n : ℕ} {text rest : List ℕ} {x : Json} → Value n text rest x
      → Whole text ≡ (has_texts x && Whole rest)
  value_whole (a_null {rest = rest}) =
      no_slashes (110 ∷ 117 ∷ 108 ∷ 108 ∷ []) rest (refl, (refl, (refl, (refl, tt))))
  value_whole (a_true {rest = rest}) =
      no_slashes (116 ∷ 114 ∷ 117 ∷ 101 ∷ []) rest (refl, (refl, (refl, (refl, tt))))
  value_whole (a_false {rest = rest}) =
      no_slashes (102 ∷ 97 ∷ 108 ∷ 115 ∷ 101 ∷ []) rest (refl, (refl, (refl, (refl, (refl, tt)))))
  value_whole (a_number {rest = rest} digits is) =
      no_slashes digits rest (number_slashes digits (number_bytes digits is))
  value_whole (a_string chars) = string_whole chars
  value_whole (an_array {text = text} few xs) = no_slash 91 text refl ∙ items_whole xs
  value_whole (an_object {text = text} few fs) = no_slash 123 text refl ∙ members_whole fs

  pub item_whole : {n : ℕ} {text rest : List ℕ} {x : Json} → Item n text rest x
      → Whole text ≡ (has_texts x && Whole rest)
  item_whole (an_item spaces value) = spaces_whole spaces ∙ value_whole value

  items_whole : {n : ℕ} {text rest : List ℕ} {xs : Jsons} → Items n text rest xs
      → Whole text ≡ (have_texts xs && Whole rest)
  items_whole (no_items {rest = rest} spaces) = spaces_whole spaces ∙ no_slash 93 rest refl
  items_whole (some_items list) = item_list_whole list

  item_list_whole : {n : ℕ} {text rest : List ℕ} {xs : Jsons} → ItemList n text rest xs
      → Whole text ≡ (have_texts xs && Whole rest)
  item_list_whole (item_list {behind = behind} {rest = rest} {x = x} {xs = xs} item more) =
      after (has_texts x) (have_texts xs) (Whole rest) (Whole behind) (item_whole item)
      (more_items_whole more)

  more_items_whole : {n : ℕ} {text rest : List ℕ} {xs : Jsons} → MoreItems n text rest xs
      → Whole text ≡ (have_texts xs && Whole rest)
  more_items_whole (no_more_items {rest = rest} spaces) = spaces_whole spaces
      ∙ no_slash 93 rest refl
  more_items_whole (more_items {comma = comma} spaces list) = spaces_whole spaces
      ∙ no_slash 44 comma refl ∙ item_list_whole list

  member_whole : {n : ℕ} {text rest : List ℕ} {ps : List Piece} {x : Json} → Member n text rest ps x
      → Whole text ≡ ((is_some (text_of ps) && has_texts x) && Whole rest)
  member_whole
      (a_member {colon = colon} {mark = mark} {rest = rest} {ps = ps} {x = x} spaces chars colons
      item) =
      after (is_some (text_of ps)) (has_texts x) (Whole rest) (Whole colon)
      (spaces_whole spaces ∙ string_whole chars)
      (spaces_whole colons ∙ no_slash 58 mark refl ∙ item_whole item)

  members_whole : {n : ℕ} {text rest : List ℕ} {fs : Fields} → Members n text rest fs
      → Whole text ≡ (fields_have_texts fs && Whole rest)
  members_whole (no_members {rest = rest} spaces) = spaces_whole spaces ∙ no_slash 125 rest refl
  members_whole (some_members list) = member_list_whole list

  member_list_whole : {n : ℕ} {text rest : List ℕ} {fs : Fields} → MemberList n text rest fs
      → Whole text ≡ (fields_have_texts fs && Whole rest)
  member_list_whole
      (member_list {behind = behind} {rest = rest} {ps = ps} {x = x} {fs = fs} member more) =
      after (is_some (text_of ps) && has_texts x) (fields_have_texts fs) (Whole rest) (Whole behind)
      (member_whole member) (more_members_whole more)
      ∙ ap (λ b. b && Whole rest)
      (sym (and_assoc (is_some (text_of ps)) (has_texts x) (fields_have_texts fs)))

  more_members_whole : {n : ℕ} {text rest : List ℕ} {fs : Fields} → MoreMembers n text rest fs
      → Whole text ≡ (fields_have_texts fs && Whole rest)
  more_members_whole (no_more_members {rest = rest} spaces) = spaces_whole spaces
      ∙ no_slash 125 rest refl
  more_members_whole (more_members {comma = comma} spaces list) = spaces_whole spaces
      ∙ no_slash 44 comma refl ∙ member_list_whole list

-- the whole text
and_true : (a : Bool) → (a && true) ≡ a
and_true true = refl
and_true false = refl

pub text_whole : {text behind : List ℕ} {x : Json} → Item 0 text behind x → Spaces behind []
    → Whole text ≡ has_texts x
text_whole {x = x} item spaces = item_whole item ∙ ap (λ b. has_texts x && b) (spaces_whole spaces)
    ∙ and_true (has_texts x)
