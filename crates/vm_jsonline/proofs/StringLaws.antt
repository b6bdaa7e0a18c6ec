-- Strings as they are read, and what the grammar says of them.
use Rattle.std.proofs.Common.{◌≡◌, inl, inr, ℕ, suc, ◌+◌, ◌*◌, ◌%◌, ◌<◌, ◌≤◌, Bool, true, false, cond, List, [], ◌∷◌, ◌++◌, length, take, drop, Option, Some, None, refl, ap, sym, subst, ◌∙◌, arith, append-nil}
use Rattle.std.specs.Prelude.{◌==◌, IsUtf8, option_map, option_and_then, encode_utf8}
use Rattle.std.specs.Char.{digit_value, IsScalar}
use Rattle.std.specs.Int.{is_in_range}
use Rattle.std.specs.List.{AllByRecursion}
use Rattle.std.proofs.lemmas.Bool.Decides.{nat_tests}
use Rattle.std.proofs.lemmas.Str.{IsUtf8-append, IsUtf8-nil, IsUtf8-encode, encode_ascii}
use Rattle.std.proofs.Math.Seq.{take-append_seam}
use Rattle.simdutf8.specs.Steps.{IsClosed, first, second, later}
use Rattle.simdutf8.proofs.Chars.{closed-IsUtf8, least_is, most_is}
use Rattle.vm_json.specs.Grammar.{is_plain, is_hex, unit_of, hex_unit, bytes, IsWide, two, three_e0, three_low, three_ed, three_high, four_f0, four, four_f4, Chars, last_quote, plain, wide, letter, hex, Piece, byte, unit}
use Rattle.vm_jsonline.specs.Parts.{quote_place, string_at, behind_value}
use Rattle.vm_jsonline.specs.Strings.{is_high, is_low, joined, is_char, with_char, text_from, text_of, letter_unit, with_digit, pieces, utf8_only, string_reading}
use Rattle.vm_jsonline.specs.declared.parts.Mode.TheVariants.{Outside, Inside}
use Rattle.vm_jsonline.specs.declared.strings.Pending.TheVariants.{Nothing}
use Rattle.vm_jsonline.proofs.Bare.{utf8_some}

-- ---- what stands between quotes, by bytes and escapes

-- neither a quote nor a backslash
pub record IsBare (b : ℕ) : Type 0 where
  pub no_quote : (b == 34) ≡ false
  pub no_slash : (b == 92) ≡ false

pub data Body : List ℕ → Type 0 where
  no_body : Body []
  a_byte : {raw : List ℕ} (b : ℕ) → IsBare b → Body raw → Body (b ∷ raw)
  an_escape : {raw : List ℕ} (b : ℕ) → Body raw → Body (92 ∷ b ∷ raw)

pub body_place : (raw rest : List ℕ) → Body raw
    → quote_place false (raw ++ 34 ∷ rest) ≡ Some (length raw)
body_place _ rest no_body = refl
body_place _ rest (a_byte {raw = raw} b bare body) =
    rw (bare.no_quote, bare.no_slash) (ap (option_map suc) (body_place raw rest body))
body_place _ rest (an_escape {raw = raw} b body) =
    ap (λ o. option_map suc (option_map suc o)) (body_place raw rest body)

pub body_behind : (d : ℕ) (raw rest : List ℕ) → Body raw
    → behind_value d Inside (raw ++ 34 ∷ rest) ≡ behind_value d Outside rest
body_behind d _ rest no_body = refl
body_behind d _ rest (a_byte {raw = raw} b bare body) =
    rw (bare.no_quote, bare.no_slash) (body_behind d raw rest body)
body_behind d _ rest (an_escape {raw = raw} b body) = body_behind d raw rest body

-- the same with its pieces
pub record StringAt (text rest : List ℕ) (ps : List Piece) : Type 0 where
  pub raw : List ℕ
  pub parts : text ≡ raw ++ 34 ∷ rest
  pub body : Body raw
  pub pieces_are : (more : List ℕ) → pieces Nothing (raw ++ more) ≡ ps ++ pieces Nothing more

-- ---- each kind of character

pub bare_plain : (b : ℕ) → is_plain b ≡ true → IsBare b
bare_plain b is =
    record { no_quote = grind (arith, nat_tests); no_slash = grind (arith, nat_tests) }

pub bare_high : (b : ℕ) → 128 ≤ b → IsBare b
bare_high b high =
    record { no_quote = grind (arith, nat_tests); no_slash = grind (arith, nat_tests) }

bare_hex : (b : ℕ) → is_hex b ≡ true → IsBare b
bare_hex b is = record { no_quote = grind (arith, nat_tests); no_slash = grind (arith, nat_tests) }

byte_at : (b : ℕ) (text rest : List ℕ) (ps : List Piece) → IsBare b → StringAt text rest ps
    → StringAt (b ∷ text) rest (byte b ∷ ps)
byte_at b text rest ps bare s = record {
  raw = b ∷ s.raw;
  parts = ap (λ t. b ∷ t) s.parts;
  body = a_byte b bare s.body;
  pieces_are = λ more. rw bare.no_slash (ap (λ p. byte b ∷ p) (s.pieces_are more));
}

abbrev pub AreHigh : List ℕ → Type 0
AreHigh = AllByRecursion (λ b. 128 ≤ b)

in_range_low : (low high b : ℕ) → is_in_range low high b ≡ true → low ≤ b
in_range_low low high b is = grind (arith, nat_tests)

in_range_high : (low high b : ℕ) → is_in_range low high b ≡ true → b ≤ high
in_range_high low high b is = grind (arith, nat_tests)

high_in : (low high b : ℕ) → is_in_range low high b ≡ true → 128 ≤ low → 128 ≤ b
high_in low high b is from = let above = in_range_low low high b is in omega arith

pub wide_high : (c : List ℕ) → IsWide c → AreHigh c
wide_high _ (two a b p q) =
    (high_in 0xC2 0xDF a p (omega arith), (high_in 0x80 0xBF b q (omega arith), tt))
wide_high _ (three_e0 b c p q) =
    (omega arith, (high_in 0xA0 0xBF b p (omega arith), (high_in 0x80 0xBF c q (omega arith), tt)))
wide_high _ (three_low a b c p q r) = (
  high_in 0xE1 0xEC a p (omega arith),
  (high_in 0x80 0xBF b q (omega arith), (high_in 0x80 0xBF c r (omega arith), tt)),
)
wide_high _ (three_ed b c p q) =
    (omega arith, (high_in 0x80 0x9F b p (omega arith), (high_in 0x80 0xBF c q (omega arith), tt)))
wide_high _ (three_high a b c p q r) = (
  high_in 0xEE 0xEF a p (omega arith),
  (high_in 0x80 0xBF b q (omega arith), (high_in 0x80 0xBF c r (omega arith), tt)),
)
wide_high _ (four_f0 b c d p q r) = (
  omega arith,
  (
    high_in 0x90 0xBF b p (omega arith),
    (high_in 0x80 0xBF c q (omega arith), (high_in 0x80 0xBF d r (omega arith), tt)),
  ),
)
wide_high _ (four a b c d p q r s) = (
  high_in 0xF1 0xF3 a p (omega arith),
  (
    high_in 0x80 0xBF b q (omega arith),
    (high_in 0x80 0xBF c r (omega arith), (high_in 0x80 0xBF d s (omega arith), tt)),
  ),
)
wide_high _ (four_f4 b c d p q r) = (
  omega arith,
  (
    high_in 0x80 0x8F b p (omega arith),
    (high_in 0x80 0xBF c q (omega arith), (high_in 0x80 0xBF d r (omega arith), tt)),
  ),
)

highs_at : (c text rest : List ℕ) (ps : List Piece) → AreHigh c → StringAt text rest ps
    → StringAt (c ++ text) rest (bytes c ps)
highs_at [] text rest ps high s = s
highs_at (b ∷ c) text rest ps high s =
    byte_at b (c ++ text) rest (bytes c ps) (bare_high b high.0) (highs_at c text rest ps high.1 s)

letter_is : (b u : ℕ) → unit_of b ≡ Some u → letter_unit b ≡ u
letter_is b u is = grind (arith, nat_tests)

letter_not_u : (b u : ℕ) → unit_of b ≡ Some u → (b == 117) ≡ false
letter_not_u b u is = go (b == 117) refl
  where
    go : (t : Bool) → (b == 117) ≡ t → (b == 117) ≡ false
    go true same = let n : b ≡ 117 = grind (arith, nat_tests) in let none : unit_of b ≡ None =
        ap unit_of n in absurd (cc (is, none))
    go false other = other

letter_at : (b u : ℕ) (text rest : List ℕ) (ps : List Piece) → unit_of b ≡ Some u
    → StringAt text rest ps → StringAt (92 ∷ b ∷ text) rest (unit u ∷ ps)
letter_at b u text rest ps is s = record {
  raw = 92 ∷ b ∷ s.raw;
  parts = ap (λ t. 92 ∷ b ∷ t) s.parts;
  body = an_escape b s.body;
  pieces_are =
      λ more. rw (letter_not_u b u is, letter_is b u is) (ap (λ p. unit u ∷ p) (s.pieces_are more));
}

hex_small : (b : ℕ) → is_hex b ≡ true → digit_value b < 16
hex_small b is = grind (arith, nat_tests)

three_digits : (x y z w : ℕ) → x < 16 → y < 16 → z < 16
    → (((0 % 0x1000 * 16 + x) % 0x1000 * 16 + y) % 0x1000 * 16 + z) % 0x1000 * 16 + w
    ≡ ((x * 16 + y) * 16 + z) * 16 + w
three_digits x y z w p q r = omega arith

hex_is : (a b c d : ℕ) → is_hex a ≡ true → is_hex b ≡ true → is_hex c ≡ true
    → with_digit (with_digit (with_digit (with_digit 0 a) b) c) d ≡ hex_unit a b c d
hex_is a b c d p q r =
    three_digits (digit_value a) (digit_value b) (digit_value c) (digit_value d) (hex_small a p)
    (hex_small b q) (hex_small c r)

hex_at : (a b c d : ℕ) (text rest : List ℕ) (ps : List Piece) → is_hex a ≡ true → is_hex b ≡ true
    → is_hex c ≡ true → is_hex d ≡ true → StringAt text rest ps
    → StringAt (92 ∷ 117 ∷ a ∷ b ∷ c ∷ d ∷ text) rest (unit (hex_unit a b c d) ∷ ps)
hex_at a b c d text rest ps p q r t s = record {
  raw = 92 ∷ 117 ∷ a ∷ b ∷ c ∷ d ∷ s.raw;
  parts = ap (λ t. 92 ∷ 117 ∷ a ∷ b ∷ c ∷ d ∷ t) s.parts;
  body = an_escape 117
      (a_byte a (bare_hex a p)
      (a_byte b (bare_hex b q) (a_byte c (bare_hex c r) (a_byte d (bare_hex d t) s.body))));
  pieces_are = λ more. ap (λ u. unit u ∷ pieces Nothing (s.raw ++ more)) (hex_is a b c d p q r)
      ∙ ap (λ p. unit (hex_unit a b c d) ∷ p) (s.pieces_are more);
}

pub chars_at : {text rest : List ℕ} {ps : List Piece} → Chars text rest ps → StringAt text rest ps
chars_at (last_quote {rest = rest}) =
    record { raw = []; parts = refl; body = no_body; pieces_are = λ more. refl }
chars_at (plain {text = text} {rest = rest} {ps = ps} b is more) =
    byte_at b text rest ps (bare_plain b is) (chars_at more)
chars_at (wide {text = text} {rest = rest} {ps = ps} c is more) =
    highs_at c text rest ps (wide_high c is) (chars_at more)
chars_at (letter {text = text} {rest = rest} {ps = ps} b u is more) =
    letter_at b u text rest ps is (chars_at more)
chars_at (hex {text = text} {rest = rest} {ps = ps} a b c d p q r t more) =
    hex_at a b c d text rest ps p q r t (chars_at more)

-- ---- the text is UTF-8

wide_closed : IsClosed 0 0 0
wide_closed = omega arith

pub wide_utf8 : (c : List ℕ) → IsWide c → IsUtf8 c
wide_utf8 _ (two a b p q) =
    let al = in_range_low 0xC2 0xDF a p in let ah = in_range_high 0xC2 0xDF a p in let bl =
    in_range_low 0x80 0xBF b q in let bh = in_range_high 0x80 0xBF b q in
    let low = least_is a in let most = most_is a in
    closed-IsUtf8 0 0 0 (a ∷ b ∷ []) wide_closed (
      first wide_closed (inr (omega arith)),
      (second (omega arith) (omega arith) (omega arith), omega arith),
    )
wide_utf8 _ (three_e0 b c p q) =
    let bl = in_range_low 0xA0 0xBF b p in let bh = in_range_high 0xA0 0xBF b p in let cl =
    in_range_low 0x80 0xBF c q in let ch = in_range_high 0x80 0xBF c q in
    closed-IsUtf8 0 0 0 (0xE0 ∷ b ∷ c ∷ []) wide_closed (
      first wide_closed (inr (omega arith)),
      (
        second (omega arith) (omega arith) (bl, bh),
        (later (inr (omega arith)) (omega arith) (omega arith), omega arith),
      ),
    )
wide_utf8 _ (three_ed b c p q) =
    let bl = in_range_low 0x80 0x9F b p in let bh = in_range_high 0x80 0x9F b p in let cl =
    in_range_low 0x80 0xBF c q in let ch = in_range_high 0x80 0xBF c q in
    closed-IsUtf8 0 0 0 (0xED ∷ b ∷ c ∷ []) wide_closed (
      first wide_closed (inr (omega arith)),
      (
        second (omega arith) (omega arith) (bl, bh),
        (later (inr (omega arith)) (omega arith) (omega arith), omega arith),
      ),
    )
wide_utf8 _ (three_low a b c p q r) =
    let al = in_range_low 0xE1 0xEC a p in let ah = in_range_high 0xE1 0xEC a p in let bl =
    in_range_low 0x80 0xBF b q in let bh = in_range_high 0x80 0xBF b q in
    let cl = in_range_low 0x80 0xBF c r in let ch = in_range_high 0x80 0xBF c r in let low =
    least_is a in let most = most_is a in
    closed-IsUtf8 0 0 0 (a ∷ b ∷ c ∷ []) wide_closed (
      first wide_closed (inr (omega arith)),
      (
        second (omega arith) (omega arith) (omega arith),
        (later (inr (omega arith)) (omega arith) (omega arith), omega arith),
      ),
    )
wide_utf8 _ (three_high a b c p q r) =
    let al = in_range_low 0xEE 0xEF a p in let ah = in_range_high 0xEE 0xEF a p in let bl =
    in_range_low 0x80 0xBF b q in let bh = in_range_high 0x80 0xBF b q in
    let cl = in_range_low 0x80 0xBF c r in let ch = in_range_high 0x80 0xBF c r in let low =
    least_is a in let most = most_is a in
    closed-IsUtf8 0 0 0 (a ∷ b ∷ c ∷ []) wide_closed (
      first wide_closed (inr (omega arith)),
      (
        second (omega arith) (omega arith) (omega arith),
        (later (inr (omega arith)) (omega arith) (omega arith), omega arith),
      ),
    )
wide_utf8 _ (four_f0 b c d p q r) =
    let bl = in_range_low 0x90 0xBF b p in let bh = in_range_high 0x90 0xBF b p in let cl =
    in_range_low 0x80 0xBF c q in let ch = in_range_high 0x80 0xBF c q in
    let dl = in_range_low 0x80 0xBF d r in let dh = in_range_high 0x80 0xBF d r in
    closed-IsUtf8 0 0 0 (0xF0 ∷ b ∷ c ∷ d ∷ []) wide_closed (
      first wide_closed (inr (omega arith)),
      (
        second (omega arith) (omega arith) (bl, bh),
        (
          later (inr (omega arith)) (omega arith) (omega arith),
          (later (inl (omega arith)) (omega arith) (omega arith), omega arith),
        ),
      ),
    )
wide_utf8 _ (four_f4 b c d p q r) =
    let bl = in_range_low 0x80 0x8F b p in let bh = in_range_high 0x80 0x8F b p in let cl =
    in_range_low 0x80 0xBF c q in let ch = in_range_high 0x80 0xBF c q in
    let dl = in_range_low 0x80 0xBF d r in let dh = in_range_high 0x80 0xBF d r in
    closed-IsUtf8 0 0 0 (0xF4 ∷ b ∷ c ∷ d ∷ []) wide_closed (
      first wide_closed (inr (omega arith)),
      (
        second (omega arith) (omega arith) (bl, bh),
        (
          later (inr (omega arith)) (omega arith) (omega arith),
          (later (inl (omega arith)) (omega arith) (omega arith), omega arith),
        ),
      ),
    )
wide_utf8 _ (four a b c d p q r s) =
    let al = in_range_low 0xF1 0xF3 a p in let ah = in_range_high 0xF1 0xF3 a p in let bl =
    in_range_low 0x80 0xBF b q in let bh = in_range_high 0x80 0xBF b q in
    let cl = in_range_low 0x80 0xBF c r in let ch = in_range_high 0x80 0xBF c r in let dl =
    in_range_low 0x80 0xBF d s in let dh = in_range_high 0x80 0xBF d s in
    let low = least_is a in let most = most_is a in
    closed-IsUtf8 0 0 0 (a ∷ b ∷ c ∷ d ∷ []) wide_closed (
      first wide_closed (inr (omega arith)),
      (
        second (omega arith) (omega arith) (omega arith),
        (
          later (inr (omega arith)) (omega arith) (omega arith),
          (later (inl (omega arith)) (omega arith) (omega arith), omega arith),
        ),
      ),
    )

-- a text after other bytes
put_front : (front : List ℕ) (o : Option (List ℕ)) → IsUtf8 front
    → ((t : List ℕ) → o ≡ Some t → IsUtf8 t) → (t : List ℕ)
    → option_map (λ u. front ++ u) o ≡ Some t → IsUtf8 t
put_front front None utf8 rest t is = absurd (cc is)
put_front front (Some u) utf8 rest t is = let same : front ++ u ≡ t =
    cc in subst IsUtf8 same (IsUtf8-append front u utf8 (rest u refl))

scalar_small : (b : ℕ) → b < 128 → IsScalar b
scalar_small b small = grind (arith, nat_tests)

char_scalar : (c : ℕ) → is_char c ≡ true → IsScalar c
char_scalar c is = grind (arith, nat_tests)

ascii_utf8 : (b : ℕ) → b < 128 → IsUtf8 (b ∷ [])
ascii_utf8 b small = subst IsUtf8 (encode_ascii b small) (IsUtf8-encode b (scalar_small b small))

plain_small : (b : ℕ) → is_plain b ≡ true → b < 128
plain_small b is = grind (arith, nat_tests)

char_front : (c : ℕ) (o : Option (List ℕ)) → ((t : List ℕ) → o ≡ Some t → IsUtf8 t) → (t : List ℕ)
    → with_char c o ≡ Some t → IsUtf8 t
char_front c o rest t is = go (is_char c) refl is
  where
    go : (test : Bool) → is_char c ≡ test
        → cond test (option_map (λ u. encode_utf8 c ++ u) o) None ≡ Some t → IsUtf8 t
    go true a_char is =
        put_front (encode_utf8 c) o (IsUtf8-encode c (char_scalar c a_char)) rest t is
    go false no_char is = absurd (cc is)

unit_front : (h : Option ℕ) (u : ℕ) (ps : List Piece)
    → ((h : Option ℕ) (t : List ℕ) → text_from h ps ≡ Some t → IsUtf8 t) → (t : List ℕ)
    → text_from h (unit u ∷ ps) ≡ Some t → IsUtf8 t
unit_front None u ps rest t is = go (is_high u) is
  where
    go : (test : Bool)
        → cond test (text_from (Some u) ps) (with_char u (text_from None ps)) ≡ Some t → IsUtf8 t
    go true is = rest (Some u) t is
    go false is = char_front u (text_from None ps) (rest None) t is
unit_front (Some h) u ps rest t is = go (is_low u) is
  where
    go : (test : Bool) → cond test (with_char (joined h u) (text_from None ps)) None ≡ Some t
        → IsUtf8 t
    go true is = char_front (joined h u) (text_from None ps) (rest None) t is
    go false is = absurd (cc is)

pub bytes_front : (c : List ℕ) (ps : List Piece)
    → text_from None (bytes c ps) ≡ option_map (λ u. c ++ u) (text_from None ps)
bytes_front [] ps = go (text_from None ps)
  where
    go : (o : Option (List ℕ)) → o ≡ option_map (λ u. [] ++ u) o
    go None = refl
    go (Some u) = refl
bytes_front (b ∷ c) ps = ap (option_map (λ t. b ∷ t)) (bytes_front c ps) ∙ go (text_from None ps)
  where
    go : (o : Option (List ℕ))
        → option_map (λ t. b ∷ t) (option_map (λ u. c ++ u) o) ≡ option_map (λ u. (b ∷ c) ++ u) o
    go None = refl
    go (Some u) = refl

wide_half : (h : ℕ) (c : List ℕ) (ps : List Piece) → IsWide c
    → text_from (Some h) (bytes c ps) ≡ None
wide_half h _ ps (two a b p q) = refl
wide_half h _ ps (three_e0 b c p q) = refl
wide_half h _ ps (three_low a b c p q r) = refl
wide_half h _ ps (three_ed b c p q) = refl
wide_half h _ ps (three_high a b c p q r) = refl
wide_half h _ ps (four_f0 b c d p q r) = refl
wide_half h _ ps (four a b c d p q r s) = refl
wide_half h _ ps (four_f4 b c d p q r) = refl

chars_utf8 : {text rest : List ℕ} {ps : List Piece} → Chars text rest ps
    → (h : Option ℕ) (t : List ℕ) → text_from h ps ≡ Some t → IsUtf8 t
chars_utf8 last_quote None t is = let same : [] ≡ t = cc in subst IsUtf8 same IsUtf8-nil
chars_utf8 last_quote (Some h) t is = absurd (cc is)
chars_utf8 (plain {ps = ps} b ok more) None t is =
    put_front (b ∷ []) (text_from None ps) (ascii_utf8 b (plain_small b ok)) (chars_utf8 more None)
    t is
chars_utf8 (plain b ok more) (Some h) t is = absurd (cc is)
chars_utf8 (wide {ps = ps} c ok more) None t is =
    put_front c (text_from None ps) (wide_utf8 c ok) (chars_utf8 more None) t
    (sym (bytes_front c ps) ∙ is)
chars_utf8 (wide {ps = ps} c ok more) (Some h) t is = absurd (cc (wide_half h c ps ok, is))
chars_utf8 (letter {ps = ps} b u ok more) h t is = unit_front h u ps (chars_utf8 more) t is
chars_utf8 (hex {ps = ps} a b c d p q r s more) h t is =
    unit_front h (hex_unit a b c d) ps (chars_utf8 more) t is

-- ---- what is read is what the pieces stand for

only_utf8 : (o : Option (List ℕ)) → ((t : List ℕ) → o ≡ Some t → IsUtf8 t)
    → option_and_then utf8_only o ≡ o
only_utf8 None utf8 = refl
only_utf8 (Some t) utf8 = utf8_some t (utf8 t refl)

raw_pieces : {text rest : List ℕ} {ps : List Piece} (s : StringAt text rest ps)
    → pieces Nothing s.raw ≡ ps
raw_pieces {ps = ps} s = ap (pieces Nothing) (sym (append-nil s.raw)) ∙ s.pieces_are []
    ∙ append-nil ps

pub string_is : {text rest : List ℕ} {ps : List Piece} → (s : StringAt text rest ps)
    → Chars text rest ps → string_reading s.raw ≡ text_of ps
unfolding string_reading
string_is {ps = ps} s chars = ap (λ p. option_and_then utf8_only (text_of p)) (raw_pieces s)
    ∙ only_utf8 (text_of ps) (chars_utf8 chars None)

drop_behind : (xs : List ℕ) (x : ℕ) (ys : List ℕ) → drop (length xs + 1) (xs ++ x ∷ ys) ≡ ys
drop_behind [] x ys = refl
drop_behind (y ∷ xs) x ys = let next : suc (length xs) + 1 ≡ suc (length xs + 1) =
    omega arith in ap (λ n. drop n (y ∷ (xs ++ x ∷ ys))) next ∙ drop_behind xs x ys

pub string_there : {text rest : List ℕ} {ps : List Piece} → (s : StringAt text rest ps)
    → string_at text ≡ Some (s.raw, rest)
string_there {text = text} {rest = rest} s =
    let at : quote_place false text ≡ Some (length s.raw) = ap (quote_place false) s.parts
    ∙ body_place s.raw rest s.body in
    let front : take (length s.raw) text ≡ s.raw = ap (take (length s.raw)) s.parts
    ∙ take-append_seam s.raw (34 ∷ rest) in
    let back : drop (length s.raw + 1) text ≡ rest = ap (drop (length s.raw + 1)) s.parts
    ∙ drop_behind s.raw 34 rest in
    ap (option_map (λ at. (take at text, drop (at + 1) text))) at
    ∙ ap Some (ap (λ f. (f, drop (length s.raw + 1) text)) front ∙ ap (λ b. (s.raw, b)) back)
