-- A string that is written with escapes stands for itself.
use Rattle.std.proofs.Common.{◌≡◌, ◌⊎◌, inl, inr, ℕ, ◌+◌, ◌*◌, ◌/◌, ◌%◌, ◌<◌, ◌≤◌, Bool, true, false, cond, List, [], ◌∷◌, ◌++◌, Some, refl, ap, sym, subst, ◌∙◌, arith, append_assoc, le-ltb, lt-ltb}
use Rattle.std.specs.Prelude.{◌==◌, ◌||◌, nat_lt, IsUtf8, option_map, encode_utf8}
use Rattle.std.specs.Char.{digit_value, digit_char}
use Rattle.std.specs.Int.{is_in_range}
use Rattle.std.proofs.lemmas.Bool.{cases_lt, and_parts}
use Rattle.std.proofs.lemmas.Bool.Decides.{nat_tests}
use Rattle.std.proofs.lemmas.Grind.{flat_map-append}
use Rattle.std.proofs.lemmas.Str.{encode_ascii}
use lib.Utf8.{scalar, scalars, encode, encodes, next, scalar_cases}
use Rattle.json.specs.Print.{escape_letter, escape_byte, escape}
use Rattle.vm_json.specs.Grammar.{is_plain, is_tail, is_hex, unit_of, hex_unit, bytes, IsWide, two, three_e0, three_low, three_ed, three_high, four_f0, four, four_f4, Chars, last_quote, plain, wide, letter, hex, Piece, byte, unit}
use Rattle.vm_jsonline.specs.Strings.{is_high, is_char, text_of}
use Rattle.vm_jsonline.proofs.StringLaws.{bytes_front, AreHigh, wide_high}

-- what stands between the quotes, and that it stands for the text
pub record Quotes (s : List ℕ) : Type 0 where
  pub pieces : List Piece
  pub are : (rest : List ℕ) → Chars (escape s ++ 34 ∷ rest) rest pieces
  pub text : text_of pieces ≡ Some s

equal : (a b : ℕ) → (a == b) ≡ true → a ≡ b
equal a b is = grind (arith, nat_tests)

-- ---- a byte of ASCII

-- one code unit of an escape
unit_text : (c : ℕ) (ps : List Piece) (s : List ℕ) → c < 128 → text_of ps ≡ Some s
    → text_of (unit c ∷ ps) ≡ Some (c ∷ s)
unit_text c ps s small is =
    let low : is_high c ≡ false = grind (arith, nat_tests) in
    let a_char : is_char c ≡ true = grind (arith, nat_tests) in
    rw (low, a_char)
    (ap (option_map (λ t. encode_utf8 c ++ t)) is
    ∙ ap (λ e. Some (e ++ s)) (encode_ascii c small))

letter_back : (c : ℕ) → nat_lt 0 (escape_letter c) ≡ true → unit_of (escape_letter c) ≡ Some c
letter_back c some =
    go ((c == 34) || (c == 92)) (c == 8) (c == 12) (c == 10) (c == 13) (c == 9) refl refl refl refl
    refl refl some
  where
    quoted : (c : ℕ) → ((c == 34) || (c == 92)) ≡ true → unit_of c ≡ Some c
    quoted c is = two_bytes (c == 34) (c == 92) refl refl is
      where
        two_bytes : (q s : Bool) → (c == 34) ≡ q → (c == 92) ≡ s → (q || s) ≡ true
            → unit_of c ≡ Some c
        two_bytes true s is _ _ = subst (λ b. unit_of b ≡ Some b) (sym (equal c 34 is)) refl
        two_bytes false true _ is _ = subst (λ b. unit_of b ≡ Some b) (sym (equal c 92 is)) refl
        two_bytes false false _ _ is = absurd (cc is)

    go : (q b f n r t : Bool) → ((c == 34) || (c == 92)) ≡ q → (c == 8) ≡ b → (c == 12) ≡ f
        → (c == 10) ≡ n → (c == 13) ≡ r → (c == 9) ≡ t
        → nat_lt 0 (cond q c (cond b 98 (cond f 102 (cond n 110 (cond r 114 (cond t 116 0))))))
        ≡ true
        → unit_of (cond q c (cond b 98 (cond f 102 (cond n 110 (cond r 114 (cond t 116 0))))))
        ≡ Some c
    go true b f n r t is _ _ _ _ _ some = quoted c is
    go false true f n r t _ is _ _ _ _ some = ap Some (sym (equal c 8 is))
    go false false true n r t _ _ is _ _ _ some = ap Some (sym (equal c 12 is))
    go false false false true r t _ _ _ is _ _ some = ap Some (sym (equal c 10 is))
    go false false false false true t _ _ _ _ is _ some = ap Some (sym (equal c 13 is))
    go false false false false false true _ _ _ _ _ is some = ap Some (sym (equal c 9 is))
    go false false false false false false _ _ _ _ _ _ some = absurd (cc some)

hex_char : (d : ℕ) → d < 16 → is_hex (digit_char d) ≡ true
hex_char d small = grind (arith, nat_tests)

value_char : (d : ℕ) → d < 16 → digit_value (digit_char d) ≡ d
value_char d small = grind (arith, nat_tests)

control_unit : (c : ℕ) → c < 32 → hex_unit 48 48 (digit_char (c / 16)) (digit_char (c % 16)) ≡ c
control_unit c small =
    let high = value_char (c / 16) (omega arith) in
    let low = value_char (c % 16) (omega arith) in
    ap (λ x. ((0 * 16 + 0) * 16 + x) * 16 + digit_value (digit_char (c % 16))) high
    ∙ ap (λ y. ((0 * 16 + 0) * 16 + c / 16) * 16 + y) low ∙ omega arith

plain_back : (c : ℕ) → c < 128 → nat_lt 0 (escape_letter c) ≡ false → nat_lt c 32 ≡ false
    → is_plain c ≡ true
plain_back c small none above = go (c == 34) (c == 92) refl refl none
  where
    go : (q s : Bool) → (c == 34) ≡ q → (c == 92) ≡ s
        → nat_lt 0
        (cond (q || s) c
        (cond (c == 8) 98
        (cond (c == 12) 102 (cond (c == 10) 110 (cond (c == 13) 114 (cond (c == 9) 116 0))))))
        ≡ false → is_plain c ≡ true
    go true s is _ none = absurd (grind (arith, nat_tests))
    go false true _ is none = absurd (grind (arith, nat_tests))
    go false false no_quote no_slash none = let within : is_in_range 0x20 0x7F c ≡ true =
        grind (arith, nat_tests) in rw (within, no_quote, no_slash) refl

ascii_quotes : (c : ℕ) (s : List ℕ) → c < 128 → Quotes s → Quotes (c ∷ s)
unfolding escape_byte
ascii_quotes c s small q = go (nat_lt 0 (escape_letter c)) (nat_lt c 32) refl refl
  where
    made : (front : List ℕ) (p : Piece) → escape_byte c ≡ front
        → ((rest : List ℕ) → Chars (front ++ (escape s ++ 34 ∷ rest)) rest (p ∷ q.pieces))
        → text_of (p ∷ q.pieces) ≡ Some (c ∷ s) → Quotes (c ∷ s)
    made front p is are text = record {
      pieces = p ∷ q.pieces;
      are = λ rest.
          subst (λ t. Chars t rest (p ∷ q.pieces))
          (sym (ap (λ e. (e ++ escape s) ++ 34 ∷ rest) is
          ∙ append_assoc front (escape s) (34 ∷ rest))) (are rest);
      text = text;
    }

    go : (l k : Bool) → nat_lt 0 (escape_letter c) ≡ l → nat_lt c 32 ≡ k → Quotes (c ∷ s)
    go true k is_letter _ =
        made (92 ∷ escape_letter c ∷ []) (unit c) (rw is_letter refl)
        (λ rest. letter (escape_letter c) c (letter_back c is_letter) (q.are rest))
        (unit_text c q.pieces s small q.text)
    go false true no_letter is_control =
        let low : c < 32 = grind (arith, nat_tests) in
        let x = digit_char (c / 16) in
        let y = digit_char (c % 16) in
        made (92 ∷ 117 ∷ 48 ∷ 48 ∷ x ∷ y ∷ []) (unit c) (rw (no_letter, is_control) refl)
        (λ rest.
        subst (λ u.
        Chars (92 ∷ 117 ∷ 48 ∷ 48 ∷ x ∷ y ∷ (escape s ++ 34 ∷ rest)) rest (unit u ∷ q.pieces))
        (control_unit c low)
        (hex 48 48 x y refl refl (hex_char (c / 16) (omega arith)) (hex_char (c % 16) (omega arith))
        (q.are rest)))
        (unit_text c q.pieces s small q.text)
    go false false no_letter no_control =
        made (c ∷ []) (byte c) (rw (no_letter, no_control) refl)
        (λ rest. plain c (plain_back c small no_letter no_control) (q.are rest))
        (ap (option_map (λ t. c ∷ t)) q.text)

-- ---- a character above ASCII

range : (low high b : ℕ) → low ≤ b → b ≤ high → is_in_range low high b ≡ true
range low high b above below = grind (arith, nat_tests)

tail : (c : ℕ) → is_tail (next c) ≡ true
tail c = range 0x80 0xBF (next c) (omega arith) (omega arith)

two_is : (c : ℕ) → 128 ≤ c → c < 2048 → encode c ≡ (192 + c / 64) ∷ next c ∷ []
unfolding encode
two_is c l h = rw (le-ltb c 128 l, lt-ltb c 2048 h)

three_is : (c : ℕ) → 2048 ≤ c → c < 65536
    → encode c ≡ (224 + c / 4096) ∷ next (c / 64) ∷ next c ∷ []
unfolding encode
three_is c l h = rw (le-ltb c 128 (omega arith), le-ltb c 2048 l, lt-ltb c 65536 h)

four_is : (c : ℕ) → 65536 ≤ c
    → encode c ≡ (240 + c / 262144) ∷ next (c / 4096) ∷ next (c / 64) ∷ next c ∷ []
unfolding encode
four_is c l = rw (le-ltb c 128 (omega arith), le-ltb c 2048 (omega arith), le-ltb c 65536 l)

three_wide : (c : ℕ) → 2048 ≤ c → c < 65536 → (c < 55296) ⊎ (57344 ≤ c)
    → IsWide ((224 + c / 4096) ∷ next (c / 64) ∷ next c ∷ [])
three_wide c l h ok = elim (cases_lt c 4096) [
  | inl a ↦
      let same : 0xE0 ≡ 224 + c / 4096 = omega arith in
      subst (λ x. IsWide (x ∷ next (c / 64) ∷ next c ∷ [])) same
      (three_e0 (next (c / 64)) (next c)
      (range 0xA0 0xBF (next (c / 64)) (omega arith) (omega arith)) (tail c))
  | inr a ↦ elim (cases_lt c 53248) [
    | inl b ↦
        three_low (224 + c / 4096) (next (c / 64)) (next c)
        (range 0xE1 0xEC (224 + c / 4096) (omega arith) (omega arith)) (tail (c / 64)) (tail c)
    | inr b ↦ elim ok [
      | inl d ↦
          let same : 0xED ≡ 224 + c / 4096 = omega arith in
          subst (λ x. IsWide (x ∷ next (c / 64) ∷ next c ∷ [])) same
          (three_ed (next (c / 64)) (next c)
          (range 0x80 0x9F (next (c / 64)) (omega arith) (omega arith)) (tail c))
      | inr d ↦
          three_high (224 + c / 4096) (next (c / 64)) (next c)
          (range 0xEE 0xEF (224 + c / 4096) (omega arith) (omega arith)) (tail (c / 64)) (tail c)
    ]
  ]
]

four_wide : (c : ℕ) → 65536 ≤ c → c < 1114112
    → IsWide ((240 + c / 262144) ∷ next (c / 4096) ∷ next (c / 64) ∷ next c ∷ [])
four_wide c l h = elim (cases_lt c 262144) [
  | inl a ↦
      let same : 0xF0 ≡ 240 + c / 262144 = omega arith in
      subst (λ x. IsWide (x ∷ next (c / 4096) ∷ next (c / 64) ∷ next c ∷ [])) same
      (four_f0 (next (c / 4096)) (next (c / 64)) (next c)
      (range 0x90 0xBF (next (c / 4096)) (omega arith) (omega arith)) (tail (c / 64)) (tail c))
  | inr a ↦ elim (cases_lt c 1048576) [
    | inl b ↦
        four (240 + c / 262144) (next (c / 4096)) (next (c / 64)) (next c)
        (range 0xF1 0xF3 (240 + c / 262144) (omega arith) (omega arith)) (tail (c / 4096))
        (tail (c / 64)) (tail c)
    | inr b ↦
        let same : 0xF4 ≡ 240 + c / 262144 = omega arith in
        subst (λ x. IsWide (x ∷ next (c / 4096) ∷ next (c / 64) ∷ next c ∷ [])) same
        (four_f4 (next (c / 4096)) (next (c / 64)) (next c)
        (range 0x80 0x8F (next (c / 4096)) (omega arith) (omega arith)) (tail (c / 64))
        (tail c))
  ]
]

scalar_sides : (c : ℕ) → scalar c ≡ true → (c < 1114112) × ((c < 55296) ⊎ (57344 ≤ c))
scalar_sides c ok =
    elim (scalar_cases c ok) [ inl a ↦ (omega arith, inl a) | inr b ↦ (b.1, inr b.0) ]

wide_of : (c : ℕ) → 128 ≤ c → scalar c ≡ true → IsWide (encode c)
wide_of c high ok =
    let sides = scalar_sides c ok in
    elim (cases_lt c 2048) [
      | inl a ↦
          subst IsWide (sym (two_is c high a))
          (two (192 + c / 64) (next c) (range 0xC2 0xDF (192 + c / 64) (omega arith) (omega arith))
          (tail c))
      | inr a ↦ elim (cases_lt c 65536) [
        | inl b ↦ subst IsWide (sym (three_is c a b)) (three_wide c a b sides.1)
        | inr b ↦ subst IsWide (sym (four_is c b)) (four_wide c b sides.0)
      ]
    ]

high_escape : (b : ℕ) → 128 ≤ b → escape_byte b ≡ b ∷ []
unfolding escape_byte
high_escape b high =
    let q : (b == 34) ≡ false = grind (arith, nat_tests) in
    let s : (b == 92) ≡ false = grind (arith, nat_tests) in
    let e : (b == 8) ≡ false = grind (arith, nat_tests) in
    let f : (b == 12) ≡ false = grind (arith, nat_tests) in
    let n : (b == 10) ≡ false = grind (arith, nat_tests) in
    let r : (b == 13) ≡ false = grind (arith, nat_tests) in
    let t : (b == 9) ≡ false = grind (arith, nat_tests) in
    let k : nat_lt b 32 ≡ false = grind (arith, nat_tests) in
    rw (q, s, e, f, n, r, t, k) refl

high_escapes : (c : List ℕ) → AreHigh c → escape c ≡ c
high_escapes [] all = refl
high_escapes (b ∷ c) all = ap (λ e. e ++ escape c) (high_escape b all.0)
    ∙ ap (λ e. b ∷ e) (high_escapes c all.1)

wide_quotes : (c : List ℕ) (s : List ℕ) → IsWide c → Quotes s → Quotes (c ++ s)
wide_quotes c s is q =
    let same : escape (c ++ s) ≡ c ++ escape s = flat_map-append escape_byte c s
    ∙ ap (λ e. e ++ escape s) (high_escapes c (wide_high c is)) in
    record {
      pieces = bytes c q.pieces;
      are = λ rest.
          subst (λ t. Chars t rest (bytes c q.pieces))
          (sym (ap (λ e. e ++ 34 ∷ rest) same ∙ append_assoc c (escape s) (34 ∷ rest)))
          (wide c is (q.are rest));
      text = bytes_front c q.pieces ∙ ap (option_map (λ u. c ++ u)) q.text;
    }

chars_quotes : (cs : List ℕ) → scalars cs ≡ true → Quotes (encodes cs)
chars_quotes [] ok = record { pieces = []; are = λ rest. last_quote; text = refl }
chars_quotes (c ∷ cs) ok =
    let p = and_parts (scalar c) (scalars cs) ok in
    elim (cases_lt c 128) [
      | inl small ↦
          subst (λ e. Quotes (e ++ encodes cs)) (sym (encode_ascii c small))
          (ascii_quotes c (encodes cs) small (chars_quotes cs p.1))
      | inr high ↦ wide_quotes (encode c) (encodes cs) (wide_of c high p.0) (chars_quotes cs p.1)
    ]

-- any text is written so that it is read again
pub quotes : (s : List ℕ) → IsUtf8 s → Quotes s
quotes s is = subst Quotes is.1.1 (chars_quotes is.0 is.1.0)
