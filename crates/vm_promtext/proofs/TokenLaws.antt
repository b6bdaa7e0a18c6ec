-- Names, digits and quotes at the front of a text.
use Rattle.std.proofs.Common.{◌≡◌, ℕ, zero, suc, ◌+◌, ◌*◌, ◌^◌, ◌<◌, ◌≤◌, Bool, true, false, cond, List, [], ◌∷◌, length, take, drop, Option, Some, None, Ok, Err, ◌-◌, refl, sym, ap, ◌∙◌, arith}
use Rattle.std.specs.Prelude.{◌&&◌, ◌||◌, ◌==◌, nat_lt, slice_index, IsUtf8, if◌then◌else◌}
use Rattle.std.specs.Char.{digit_value}
use Rattle.std.specs.List.{list_all, prefix_len}
use Rattle.std.specs.Option.{option_map}
use Rattle.std.specs.Str.{is_utf8}
use Rattle.std.specs.Str.Parse.{digits_value_after}
use Rattle.std.proofs.lemmas.Bool.{and_parts}
use Rattle.std.proofs.lemmas.Bool.Decides.{nat_tests}
use Rattle.std.proofs.lemmas.List.{get_or-take}
use Rattle.std.proofs.lemmas.Str.{IsUtf8-from_ascii, IsUtf8-from_is_utf8, is_utf8-from_IsUtf8}
use Rattle.memchr.specs.Find.{is_byte2}
use Rattle.vm_labels.specs.Name.{begins_name, is_name_byte, is_name, name_len}
use Rattle.vm_promtext.specs.Outcome.{time_of}
use Rattle.vm_promtext.specs.Reading.{quote_place, quoted_reading}
use Rattle.vm_promtext.specs.Utf8.{readable, nothing}

-- all items up to the first that fails pass
pub front_passes : {X : Type 0} (p : X → Bool) (xs : List X)
    → list_all p (take (prefix_len p xs) xs) ≡ true
front_passes p [] = refl
front_passes p (x ∷ xs) = go (p x) refl (front_passes p xs)
  where
    go : (b : Bool) → p x ≡ b → list_all p (take (prefix_len p xs) xs) ≡ true
        → list_all p (take (cond b (1 + prefix_len p xs) 0) (x ∷ xs)) ≡ true
    go true is more = let next : 1 + prefix_len p xs ≡ suc (prefix_len p xs) =
        omega arith in rw (next, is) more
    go false is more = refl

-- what stands before the end of a name at the front is one
pub front_named : (text : List ℕ) → (name_len text ≡ 0 → ⊥)
    → is_name (take (name_len text) text) ≡ true
front_named text some = go (begins_name (slice_index text 0)) refl some
  where
    go : (b : Bool) → begins_name (slice_index text 0) ≡ b
        → (cond b (prefix_len is_name_byte text) 0 ≡ 0 → ⊥)
        → is_name (take (cond b (prefix_len is_name_byte text) 0) text) ≡ true
    go true begins some =
        let n = prefix_len is_name_byte text in
        let first : begins_name (slice_index (take n text) 0) ≡ true =
        ap begins_name (get_or-take n text 0 0 (omega arith)) ∙ begins in
        ap (λ b. b && list_all is_name_byte (take n text)) first ∙ front_passes is_name_byte text
    go false begins some = absurd (some refl)

small : (byte : ℕ) → is_name_byte byte ≡ true → byte < 128
small byte is = grind (arith, nat_tests)

-- a name is ASCII, so it is UTF-8
all_small : (text : List ℕ) → list_all is_name_byte text ≡ true → (i : ℕ) → slice_index text i < 128
all_small [] are i = omega arith
all_small (byte ∷ more) are zero =
    small byte (and_parts (is_name_byte byte) (list_all is_name_byte more) are).0
all_small (byte ∷ more) are (suc i) =
    all_small more (and_parts (is_name_byte byte) (list_all is_name_byte more) are).1 i

pub name_utf8 : (text : List ℕ) → is_name text ≡ true → IsUtf8 text
name_utf8 text is =
    IsUtf8-from_ascii text
    (all_small text
    (and_parts (begins_name (slice_index text 0)) (list_all is_name_byte text) is).1)

pub is_utf8_not : (text : List ℕ) → (IsUtf8 text → ⊥) → is_utf8 text ≡ false
is_utf8_not text not = go (is_utf8 text) refl
  where
    go : (b : Bool) → is_utf8 text ≡ b → b ≡ false
    go true is = absurd (not (IsUtf8-from_is_utf8 text is))
    go false is = refl

-- ---- the quote that ends a value

moved_none : (n : ℕ) (o : Option ℕ) → n ≡ 0 → o ≡ option_map (λ at. n + at) o
moved_none n None is = refl
moved_none n (Some at) is = ap Some (omega arith)

moved_more : (n : ℕ) (o : Option ℕ)
    → option_map suc (option_map (λ at. n + at) o) ≡ option_map (λ at. suc n + at) o
moved_more n None = refl
moved_more n (Some at) = ap Some (omega arith)

pub moved_twice : (m n : ℕ) (o : Option ℕ)
    → option_map (λ at. m + at) (option_map (λ at. n + at) o) ≡ option_map (λ at. m + n + at) o
moved_twice m n None = refl
moved_twice m n (Some at) = ap Some (omega arith)

abbrev pub Plain : List ℕ → ℕ → Type 0
Plain text n = (k : ℕ) → k < n → is_byte2 34 92 (slice_index text k) ≡ true → ⊥

plain_byte : (byte : ℕ) (more : List ℕ) → (is_byte2 34 92 byte ≡ true → ⊥)
    → quote_place false (byte ∷ more) ≡ option_map suc (quote_place false more)
plain_byte byte more plain = go (byte == 34) (byte == 92) refl refl
  where
    go : (a b : Bool) → (byte == 34) ≡ a → (byte == 92) ≡ b
        → cond a (Some 0) (option_map suc (quote_place b more))
        ≡ option_map suc (quote_place false more)
    go true b is other = absurd (plain (ap (λ a. a || byte == 92) is))
    go false true is other = absurd (plain (ap (λ a. a || byte == 92) is ∙ other))
    go false false is other = refl

-- bytes that are neither quotes nor backslashes are passed
pub quote_behind : (text : List ℕ) (n : ℕ) → n ≤ length text → Plain text n
    → quote_place false text ≡ option_map (λ at. n + at) (quote_place false (drop n text))
quote_behind text zero within plain = moved_none 0 (quote_place false text) refl
quote_behind [] (suc n) within plain = absurd (omega arith)
quote_behind (byte ∷ more) (suc n) within plain =
    plain_byte byte more (plain 0 (omega arith))
    ∙ ap (option_map suc) (quote_behind more n (omega arith) (λ k h. plain (suc k) (omega arith)))
    ∙ moved_more n (quote_place false (drop n more))

quote_nowhere : (text : List ℕ) → Plain text (length text) → quote_place false text ≡ None
quote_nowhere [] plain = refl
quote_nowhere (byte ∷ more) plain =
    plain_byte byte more (plain 0 (omega arith))
    ∙ ap (option_map suc) (quote_nowhere more (λ k h. plain (suc k) (omega arith)))

pub quote_none : (text : List ℕ) (from : ℕ)
    → quote_place false text ≡ option_map (λ at. from + at) (quote_place false (drop from text))
    → Plain (drop from text) (length (drop from text)) → None ≡ quote_place false text
quote_none text from so_far plain =
    sym (so_far ∙ ap (option_map (λ at. from + at)) (quote_nowhere (drop from text) plain))

first_quote : (text : List ℕ) (n : ℕ) → n < length text → slice_index text n ≡ 34
    → quote_place false (drop n text) ≡ Some 0
first_quote [] n within is = absurd (omega arith)
first_quote (byte ∷ more) zero within is = rw is refl
first_quote (byte ∷ more) (suc n) within is = first_quote more n (omega arith) is

two_more : (o : Option ℕ) → option_map suc (option_map suc o) ≡ option_map (λ at. 2 + at) o
two_more None = refl
two_more (Some at) = ap Some (omega arith)

first_escape : (text : List ℕ) (n : ℕ) → n < length text → slice_index text n ≡ 92
    → quote_place false (drop n text)
    ≡ option_map (λ at. 2 + at) (quote_place false (drop (n + 2) text))
first_escape [] n within is = absurd (omega arith)
first_escape (byte ∷ []) zero within is = rw is refl
first_escape (byte ∷ next ∷ more) zero within is = rw is (two_more (quote_place false more))
first_escape (byte ∷ more) (suc n) within is =
    let next : suc n + 2 ≡ suc (n + 2) = omega arith in
    rw next (first_escape more n (omega arith) is)

pub quote_found : (text : List ℕ) (from n : ℕ)
    → quote_place false text ≡ option_map (λ at. from + at) (quote_place false (drop from text))
    → n < length (drop from text) → Plain (drop from text) n → slice_index (drop from text) n ≡ 34
    → Some (from + n) ≡ quote_place false text
quote_found text from n so_far within plain is =
    sym (so_far
    ∙ ap (option_map (λ at. from + at))
    (quote_behind (drop from text) n (omega arith) plain
    ∙ ap (option_map (λ at. n + at)) (first_quote (drop from text) n within is))
    ∙ ap Some (omega arith))

pub quote_escaped : (text : List ℕ) (from n : ℕ)
    → quote_place false text ≡ option_map (λ at. from + at) (quote_place false (drop from text))
    → n < length (drop from text) → Plain (drop from text) n → slice_index (drop from text) n ≡ 92
    → quote_place false text
    ≡ option_map (λ at. from + (n + 2) + at) (quote_place false (drop (n + 2) (drop from text)))
quote_escaped text from n so_far within plain is =
    let rest = quote_place false (drop (n + 2) (drop from text)) in
    so_far
    ∙ ap (option_map (λ at. from + at))
    (quote_behind (drop from text) n (omega arith) plain
    ∙ ap (option_map (λ at. n + at)) (first_escape (drop from text) n within is)
    ∙ moved_twice n 2 rest)
    ∙ moved_twice from (n + 2) rest

pub is_escape : (byte : ℕ) → is_byte2 34 92 byte ≡ true → (byte ≡ 34 → ⊥) → byte ≡ 92
is_escape byte is not = grind (arith, nat_tests)

pub quoted_ok : (text : List ℕ) (at : ℕ) → Some at ≡ quote_place false text → IsUtf8 (take at text)
    → Ok (take at text, drop (at + 1) text) ≡ quoted_reading text
unfolding quoted_reading
quoted_ok text at is utf8 =
    let test : is_utf8 (take at text) ≡ true = is_utf8-from_IsUtf8 (take at text) utf8 in
    rw (← is, test) refl

pub quoted_broken : (text : List ℕ) (at : ℕ) → Some at ≡ quote_place false text
    → (IsUtf8 (take at text) → ⊥)
    → Err (length text - readable nothing (take at text)) ≡ quoted_reading text
unfolding quoted_reading
quoted_broken text at is not =
    let test : is_utf8 (take at text) ≡ false = is_utf8_not (take at text) not in
    rw (← is, test) refl

-- ---- the time

-- the time that digits write which follow those of a number
abbrev pub time_after : ℕ → List ℕ → Option ℕ
time_after read digits = if nat_lt (digits_value_after 10 read digits) (2 ^ 48)
    then Some (digits_value_after 10 read digits) else None

pub grows : (read : ℕ) (digits : List ℕ) → read ≤ digits_value_after 10 read digits
grows read [] = omega arith
grows read (digit ∷ more) = omega (arith, grows (read * 10 + digit_value digit) more)

large : (n : ℕ) → 2 ^ 48 ≤ n → (if nat_lt n (2 ^ 48) then Some n else None) ≡ None
large n h = grind arith

pub time_after-large : (read : ℕ) (digits : List ℕ) → 2 ^ 48 ≤ read → time_after read digits ≡ None
time_after-large read digits h =
    large (digits_value_after 10 read digits) (omega (arith, grows read digits))

pub time_of-large : (now : ℕ) (digits : List ℕ) → 0 < length digits → time_after 0 digits ≡ None
    → None ≡ time_of now digits
time_of-large now digits some is =
    let test : (length digits == 0) ≡ false = grind (arith, nat_tests) in
    rw test (sym is)
