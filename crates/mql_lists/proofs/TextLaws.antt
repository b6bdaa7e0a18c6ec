-- Where the texts of names and strings begin and end, and the texts of strings.
use Rattle.std.proofs.Common.{◌≡◌, ℕ, zero, suc, ◌+◌, ◌-◌, ◌<◌, ◌≤◌, Bool, true, false, cond, List, [], ◌∷◌, ◌++◌, length, take, drop, get_or, refl, ap, sym, subst, ◌∙◌, arith, length-append, map}
use Rattle.std.specs.Prelude.{◌==◌, not, slice_index, IsUtf8, IsCharBoundary}
use Rattle.std.specs.List.{list_all, position_or_len, before_first, after_first}
use Rattle.std.proofs.Math.Seq.{drop-cons, get_or-append_seam}
use Rattle.std.proofs.lemmas.Bool.{and_parts}
use Rattle.std.proofs.lemmas.Bool.Decides.{nat_tests}
use Rattle.std.proofs.lemmas.List.{get_or-take, get_or-drop, take-take, drop-take, drop-drop, length-take-le, length-drop, drop_all}
use Rattle.std.proofs.lemmas.Str.{IsCharBoundary-after_ascii, IsCharBoundary-before_ascii}
use Rattle.mql_lex.specs.Grammar.{IsQuoted, IsToken, is_quote}
use Rattle.mql_lex.specs.Tokens.{StandsIn, slice_of}
use Rattle.mql_lex.specs.declared.token.Token.{Token}
use Rattle.mql_lex.specs.declared.token.TokenKind.TheVariants.{Name, Str}
use Rattle.vm_labels.specs.Name.{begins_name, is_name, is_name_byte}
use Rattle.mql_lists.specs.Classes.{class_in}
use Rattle.mql_lists.specs.Values.{between, unescaped}
use Rattle.mql_lists.specs.declared.class.Class.{Class}

-- ---- rows of a table

-- the row at a place decides, or those after it
pub row_at :
    {R : Type 0} (view : R → List ℕ × Class) (rows : List R) (i : ℕ) (d : R) (is : List ℕ → Bool)
    (other : Class) → i < length rows
    → class_in (map view (drop i rows)) is other
    ≡ cond (is (view (get_or rows i d)).0) (view (get_or rows i d)).1
    (class_in (map view (drop (i + 1) rows)) is other)
row_at view rows i d is other inside =
    let next : suc i ≡ i + 1 = omega arith in
    let front : drop i rows ≡ get_or rows i d ∷ drop (i + 1) rows =
    drop-cons rows i d inside ∙ ap (λ n. get_or rows i d ∷ drop n rows) next in
    ap (λ rest. class_in (map view rest) is other) front

pub rows_end :
    {R : Type 0} (view : R → List ℕ × Class) (rows : List R) (i : ℕ) (is : List ℕ → Bool)
    (other : Class)
    → length rows ≤ i → class_in (map view (drop i rows)) is other ≡ other
rows_end view rows i is other past =
    ap (λ rest. class_in (map view rest) is other) (drop_all i rows past)

-- ---- the ends of names

small : (byte : ℕ) → is_name_byte byte ≡ true → byte < 128
small byte is = grind (arith, nat_tests)

all_small : (text : List ℕ) → list_all is_name_byte text ≡ true → (i : ℕ) → get_or text i 0 < 128
all_small [] are i = omega arith
all_small (byte ∷ more) are zero =
    small byte (and_parts (is_name_byte byte) (list_all is_name_byte more) are).0
all_small (byte ∷ more) are (suc i) =
    all_small more (and_parts (is_name_byte byte) (list_all is_name_byte more) are).1 i

name_small : (text : List ℕ) → is_name text ≡ true → (i : ℕ) → get_or text i 0 < 128
name_small text is =
    all_small text (and_parts (begins_name (slice_index text 0)) (list_all is_name_byte text) is).1

name_some : (text : List ℕ) → is_name text ≡ true → 0 < length text
name_some [] is = absurd (cc is)
name_some (byte ∷ more) is = omega arith

slice_length : (text : List ℕ) (token : Token) → token.at + token.len ≤ length text
    → length (slice_of text token) ≡ token.len
slice_length text token within =
    let rest = length-drop token.at text in
    length-take-le token.len (drop token.at text) (omega arith)

-- the byte of a slice
slice_byte : (text : List ℕ) (token : Token) (i : ℕ) → i < token.len
    → get_or (slice_of text token) i 0 ≡ get_or text (token.at + i) 0
slice_byte text token i inside =
    get_or-take token.len (drop token.at text) i 0 inside ∙ get_or-drop token.at text i 0

ends_behind : (text : List ℕ) (at len : ℕ) → IsUtf8 text → at + len ≤ length text → 0 < len
    → get_or text (at + (len - 1)) 0 < 128 → IsCharBoundary text (at + len)
ends_behind text at len utf8 within some ascii =
    let last : at + (len - 1) + 1 ≡ at + len = omega arith in
    let inside : at + (len - 1) < length text = omega arith in
    subst (IsCharBoundary text) last
    (IsCharBoundary-after_ascii text (at + (len - 1)) utf8 inside ascii)

pub name_end : (text : List ℕ) (token : Token) → IsUtf8 text → StandsIn text token
    → token.kind ≡ Name
    → IsCharBoundary text (token.at + token.len)
name_end text token utf8 stands kind =
    let is : is_name (slice_of text token) ≡ true =
    subst (λ k. IsToken k (slice_of text token)) kind stands.is in
    let long : length (slice_of text token) ≡ token.len = slice_length text token stands.within in
    let slice_some : 0 < length (slice_of text token) = name_some (slice_of text token) is in
    let some : 0 < token.len = omega arith in
    let inside : token.len - 1 < token.len = omega arith in
    let ascii : get_or text (token.at + (token.len - 1)) 0 < 128 =
    subst (λ b. b < 128) (slice_byte text token (token.len - 1) inside)
    (name_small (slice_of text token) is (token.len - 1)) in
    ends_behind text token.at token.len utf8 stands.within some ascii

pub name_begin : (text : List ℕ) (token : Token) → StandsIn text token → token.kind ≡ Name
    → IsCharBoundary text token.at
name_begin text token stands kind =
    let is : is_name (slice_of text token) ≡ true =
    subst (λ k. IsToken k (slice_of text token)) kind stands.is in
    let long : length (slice_of text token) ≡ token.len = slice_length text token stands.within in
    let slice_some : 0 < length (slice_of text token) = name_some (slice_of text token) is in
    let some : 0 < token.len = omega arith in
    let within = stands.within in
    let inside : token.at < length text = omega arith in
    let here : token.at + 0 ≡ token.at = omega arith in
    let ascii : get_or text (token.at + 0) 0 < 128 =
    subst (λ b. b < 128) (slice_byte text token 0 some) (name_small (slice_of text token) is 0) in
    IsCharBoundary-before_ascii text token.at inside (subst (λ n. get_or text n 0 < 128) here ascii)

-- ---- the quotes of strings

quote_small : (byte : ℕ) → is_quote byte ≡ true → byte < 128
quote_small byte is = grind (arith, nat_tests)

-- where the text between the quotes begins and ends
pub record Inner (text : List ℕ) (token : Token) : Type 0 where
  pub long : 2 ≤ token.len
  pub begins : IsCharBoundary text (token.at + 1)
  pub ends : IsCharBoundary text (token.at + token.len - 1)

pub inner : (text : List ℕ) (token : Token) → IsUtf8 text → StandsIn text token → token.kind ≡ Str
    → Inner text token
inner text token utf8 stands kind =
    let slice = slice_of text token in
    let is : IsQuoted slice = subst (λ k. IsToken k slice) kind stands.is in
    let within = stands.within in
    let long : length slice ≡ token.len = slice_length text token within in
    let tail : length (is.inner ++ is.quote ∷ []) ≡ length is.inner + 1 =
    length-append is.inner (is.quote ∷ []) in
    let whole : length slice ≡ suc (length (is.inner ++ is.quote ∷ [])) = ap length is.parts in
    let two : 2 ≤ token.len = omega arith in
    let quote : is.quote < 128 = quote_small is.quote is.a_quote in
    let first : get_or slice 0 0 ≡ is.quote = ap (λ t. get_or t 0 0) is.parts in
    let last_at : token.len - 1 ≡ suc (length is.inner) = omega arith in
    let last : get_or slice (token.len - 1) 0 ≡ is.quote =
    ap (λ n. get_or slice n 0) last_at ∙ ap (λ t. get_or t (suc (length is.inner)) 0) is.parts
    ∙ get_or-append_seam is.inner is.quote [] 0 in
    let here : token.at + 0 ≡ token.at = omega arith in
    let begin_byte : get_or text token.at 0 ≡ is.quote =
    sym (ap (λ n. get_or text n 0) here) ∙ sym (slice_byte text token 0 (omega arith)) ∙ first in
    let end_at : token.at + token.len - 1 ≡ token.at + (token.len - 1) = omega arith in
    let end_byte : get_or text (token.at + token.len - 1) 0 ≡ is.quote =
    ap (λ n. get_or text n 0) end_at ∙ sym (slice_byte text token (token.len - 1) (omega arith))
    ∙ last in
    record {
      long = two;
      begins =
          IsCharBoundary-after_ascii text token.at utf8 (omega arith)
          (subst (λ b. b < 128) (sym begin_byte) quote);
      ends = IsCharBoundary-before_ascii text (token.at + token.len - 1) (omega arith)
          (subst (λ b. b < 128) (sym end_byte) quote);
    }

-- what stands between the quotes, cut from the text
pub between_is : (text : List ℕ) (token : Token) → token.at + token.len ≤ length text
    → 2 ≤ token.len
    → between (slice_of text token)
    ≡ take (token.at + token.len - 1 - (token.at + 1)) (drop (token.at + 1) text)
between_is text token within two =
    let long : length (slice_of text token) ≡ token.len = slice_length text token within in
    let split : token.len ≡ 1 + (token.len - 1) = omega arith in
    let front : drop 1 (slice_of text token) ≡ take (token.len - 1) (drop (token.at + 1) text) =
    ap (λ n. drop 1 (take n (drop token.at text))) split
    ∙ drop-take 1 (token.len - 1) (drop token.at text)
    ∙ ap (take (token.len - 1)) (drop-drop 1 token.at text) in
    let shorter : take (token.len - 2) (take (token.len - 1) (drop (token.at + 1) text))
    ≡ take (token.len - 2) (drop (token.at + 1) text) =
    take-take (token.len - 2) (token.len - 1) (drop (token.at + 1) text) (omega arith) in
    let same : token.len - 2 ≡ token.at + token.len - 1 - (token.at + 1) = omega arith in
    ap (λ n. take (n - 2) (drop 1 (slice_of text token))) long ∙ ap (take (token.len - 2)) front
    ∙ shorter
    ∙ ap (λ n. take n (drop (token.at + 1) text)) same

-- ---- escapes

plain_byte : (byte : ℕ) (more : List ℕ) → (byte ≡ 110 → ⊥) → (byte ≡ 116 → ⊥) → (byte ≡ 92 → ⊥)
    → unescaped true (byte ∷ more) ≡ unescaped false (byte ∷ more)
plain_byte byte more not_n not_t not_slash =
    let n : (byte == 110) ≡ false = grind (arith, nat_tests) in
    let t : (byte == 116) ≡ false = grind (arith, nat_tests) in
    let slash : (byte == 92) ≡ false = grind (arith, nat_tests) in
    rw (n, t, slash) refl

-- what stands after a backslash stands for itself, but for three bytes
pub plain : (text : List ℕ) → ((rest : List ℕ) → text ≡ 110 ∷ rest → ⊥)
    → ((rest : List ℕ) → text ≡ 116 ∷ rest → ⊥)
    → ((rest : List ℕ) → text ≡ 92 ∷ rest → ⊥) → unescaped true text ≡ unescaped false text
plain [] not_n not_t not_slash = refl
plain (byte ∷ more) not_n not_t not_slash =
    plain_byte byte more (λ is. not_n more (ap (λ b. b ∷ more) is))
    (λ is. not_t more (ap (λ b. b ∷ more) is)) (λ is. not_slash more (ap (λ b. b ∷ more) is))

abbrev is_slash : ℕ → Bool
is_slash byte = byte == 92

-- without a backslash a text stands for itself
pub no_slash : (text : List ℕ) → position_or_len is_slash text ≡ length text
    → unescaped false text ≡ text
no_slash [] none = refl
no_slash (byte ∷ more) none = go (byte == 92) refl none (no_slash more)
  where
    go : (b : Bool) → (byte == 92) ≡ b
        → cond (not b) (1 + position_or_len is_slash more) 0 ≡ suc (length more)
        → (position_or_len is_slash more ≡ length more → unescaped false more ≡ more)
        → unescaped false (byte ∷ more) ≡ byte ∷ more
    go true is none rest = absurd (omega arith)
    go false is none rest = rw (is, rest (omega arith)) refl

-- what stands before a backslash, and what is escaped
pub first_slash : (text : List ℕ) → position_or_len is_slash text < length text
    → unescaped false text ≡ before_first is_slash text
    ++ unescaped true (after_first is_slash text)
first_slash [] some = absurd (omega arith)
first_slash (byte ∷ more) some = go (byte == 92) refl some (first_slash more)
  where
    go : (b : Bool) → (byte == 92) ≡ b
        → cond (not b) (1 + position_or_len is_slash more) 0 < suc (length more)
        → (position_or_len is_slash more < length more
        → unescaped false more ≡ before_first is_slash more
        ++ unescaped true (after_first is_slash more))
        → unescaped false (byte ∷ more)
        ≡ take (cond (not b) (1 + position_or_len is_slash more) 0) (byte ∷ more)
        ++ unescaped true
        (drop (cond (not b) (1 + position_or_len is_slash more) 0 + 1) (byte ∷ more))
    go true is some rest = rw is refl
    go false is some rest =
        let next : 1 + position_or_len is_slash more ≡ suc (position_or_len is_slash more) =
        omega arith in
        let behind : suc (position_or_len is_slash more) + 1
        ≡ suc (position_or_len is_slash more + 1) = omega arith in
        rw (is, next, behind) (ap (λ t. byte ∷ t) (rest (omega arith)))
