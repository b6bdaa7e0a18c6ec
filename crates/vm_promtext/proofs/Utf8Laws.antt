-- Reading byte by byte reads UTF-8, and finds the place where a text stops being UTF-8.
use Rattle.std.proofs.Common.{◌≡◌, ◌⊎◌, inl, inr, ℕ, zero, suc, ◌+◌, ◌-◌, ◌/◌, ◌<◌, ◌≤◌, Bool, true, false, cond, List, [], ◌∷◌, ◌++◌, length, take, Option, Some, None, refl, ap, sym, subst, ◌∙◌, arith, lt-ltb, le-ltb}
use Rattle.std.specs.Prelude.{◌==◌, nat_lt, IsUtf8, MatchOption}
use Rattle.std.specs.Int.{is_in_range}
use Rattle.std.specs.List.{AllByRecursion}
use Rattle.std.specs.Option.{option_map_or}
use Rattle.std.specs.Str.{continuation_len}
use Rattle.std.specs.Str.Lossy.{second_byte_min, second_byte_max}
use Rattle.std.proofs.lemmas.Bool.{cases_lt, and_parts}
use Rattle.std.proofs.lemmas.Bool.Decides.{nat_tests}
use Rattle.std.proofs.lemmas.Str.{encode_ascii}
use lib.Utf8.{scalar, scalars, encode, encodes, next, scalar_cases}
use Rattle.simdutf8.specs.Steps.{IsContinuation, IsClosed, first, second, later, StepsThen}
use Rattle.simdutf8.proofs.Chars.{closed-IsUtf8, least_is, most_is}
use Rattle.vm_promtext.specs.Utf8.{nothing, behind_first, behind_byte, readable}
use Rattle.vm_promtext.specs.declared.utf8.Wanted.{Wanted}

-- the text is what is wanted and then whole characters
abbrev pub Goes : Wanted → List ℕ → Type 0
Goes wanted [] = wanted.count ≡ 0
Goes wanted (byte ∷ more) = MatchOption (behind_byte wanted byte) ⊥ (λ next. Goes next more)

abbrev pub lead_of : ℕ → Wanted
lead_of byte =
    record {
      count = continuation_len byte;
      least = second_byte_min byte;
      greatest = second_byte_max byte;
    }

abbrev pub still : ℕ → Wanted
still n = record { count = n; least = 0x80; greatest = 0xBF }

-- ---- one byte

module _ (P : Wanted → Type 0) (byte : ℕ) where
  behind_first_cases : MatchOption (behind_first byte) ⊥ P → ((byte < 0x80) × P nothing)
      ⊎ ((0xC2 ≤ byte) × (byte ≤ 0xF4) × P (lead_of byte))
  behind_first_cases goes = go (nat_lt byte 0x80) (is_in_range 0xC2 0xF4 byte) refl refl goes
    where
      go : (a b : Bool) → nat_lt byte 0x80 ≡ a → is_in_range 0xC2 0xF4 byte ≡ b
          → MatchOption (cond a (Some nothing) (cond b (Some (lead_of byte)) None)) ⊥ P
          → ((byte < 0x80) × P nothing) ⊎ ((0xC2 ≤ byte) × (byte ≤ 0xF4) × P (lead_of byte))
      go true b low lead goes = inl (grind (arith, nat_tests), goes)
      go false true low lead goes = inr (grind (arith, nat_tests), grind (arith, nat_tests), goes)
      go false false low lead goes = absurd goes

  pub at_first : (wanted : Wanted) → wanted.count ≡ 0 → MatchOption (behind_byte wanted byte) ⊥ P
      → ((byte < 0x80) × P nothing) ⊎ ((0xC2 ≤ byte) × (byte ≤ 0xF4) × P (lead_of byte))
  at_first wanted none goes = behind_first_cases (rw none at goes)

  pub at_later : (wanted : Wanted) → 0 < wanted.count → MatchOption (behind_byte wanted byte) ⊥ P
      → (wanted.least ≤ byte) × (byte ≤ wanted.greatest) × P (still (wanted.count - 1))
  at_later wanted some goes =
      go (wanted.count == 0) (is_in_range wanted.least wanted.greatest byte) refl refl goes
    where
      go : (a b : Bool) → (wanted.count == 0) ≡ a
          → is_in_range wanted.least wanted.greatest byte ≡ b
          → MatchOption (cond a (behind_first byte) (cond b (Some (still (wanted.count - 1))) None))
          ⊥ P
          → (wanted.least ≤ byte) × (byte ≤ wanted.greatest) × P (still (wanted.count - 1))
      go true b none within goes = absurd (grind (arith, nat_tests))
      go false true none within goes = (grind (arith, nat_tests), grind (arith, nat_tests), goes)
      go false false none within goes = absurd goes

-- ---- from bytes to characters

-- how the last three bytes say what is wanted
pub data At (x y z : ℕ) (wanted : Wanted) : Type 0 where
  between : wanted.count ≡ 0 → IsClosed x y z → At x y z wanted
  behind_one : x < 0xF0 → y < 0xE0 → 0xC2 ≤ z → z ≤ 0xF4 → wanted ≡ lead_of z → At x y z wanted
  behind_two : x < 0xF0 → 0xE0 ≤ y → y ≤ 0xF4 → IsContinuation z
      → wanted.count + 1 ≡ continuation_len y → wanted ≡ still wanted.count → At x y z wanted
  behind_three : 0xF0 ≤ x → x ≤ 0xF4 → IsContinuation y → IsContinuation z → wanted ≡ still 1
      → At x y z wanted

len_is : (z : ℕ) → 0xC2 ≤ z → z ≤ 0xF4 → ((z < 0xE0) × (continuation_len z ≡ 1))
    ⊎ (((0xE0 ≤ z) × (z < 0xF0) × (continuation_len z ≡ 2))
    ⊎ ((0xF0 ≤ z) × (continuation_len z ≡ 3)))
len_is z low high = elim (cases_lt z 0xE0) [
  | inl a ↦ inl (a, rw (le-ltb z 128 (omega arith), lt-ltb z 0xE0 a))
  | inr a ↦ elim (cases_lt z 0xF0) [
    | inl b ↦ inr (inl (a, b, rw (le-ltb z 128 (omega arith), le-ltb z 0xE0 a, lt-ltb z 0xF0 b)))
    | inr b ↦ inr (inr (b, rw (le-ltb z 128 (omega arith), le-ltb z 0xE0 a, le-ltb z 0xF0 b)))
  ]
]

to_steps : (bs : List ℕ) (x y z : ℕ) (wanted : Wanted) → At x y z wanted → Goes wanted bs
    → StepsThen IsClosed x y z bs
to_steps [] x y z wanted (between none closed) goes = closed
to_steps [] x y z wanted (behind_one a b c d is) goes =
    let len = len_is z c d in
    let none : continuation_len z ≡ 0 = sym (ap (λ w. w.count) is) ∙ goes in
    absurd (omega arith)
to_steps [] x y z wanted (behind_two a b c d len is) goes =
    let more = len_is y (omega arith) c in absurd (omega arith)
to_steps [] x y z wanted (behind_three a b c d is) goes =
    let one : wanted.count ≡ 1 = ap (λ w. w.count) is in absurd (omega arith)
to_steps (byte ∷ bs) x y z wanted (between none closed) goes =
    elim (at_first (λ w. Goes w bs) byte wanted none goes) [
      | inl low ↦ (
        first closed (inl low.0),
        to_steps bs y z byte nothing (between refl (omega arith)) low.1,
      )
      | inr lead ↦ (
        first closed (inr (omega arith)),
        to_steps bs y z byte (lead_of byte)
            (behind_one (omega arith) (omega arith) lead.0 lead.1 refl) lead.2,
      )
    ]
to_steps (byte ∷ bs) x y z wanted (behind_one a b c d is) goes =
    let len = len_is z c d in
    let low = least_is z in
    let high = most_is z in
    let count : wanted.count ≡ continuation_len z = ap (λ w. w.count) is in
    let least : wanted.least ≡ second_byte_min z = ap (λ w. w.least) is in
    let greatest : wanted.greatest ≡ second_byte_max z = ap (λ w. w.greatest) is in
    let next = at_later (λ w. Goes w bs) byte wanted (omega arith) goes in (
      second (a, b) (c, d) (omega arith, omega arith),
      to_steps bs y z byte (still (wanted.count - 1))
          (elim len [
            | inl one ↦ between (omega arith) (omega arith)
            | inr more ↦ behind_two (omega arith) (omega arith) d (omega arith) (omega arith) refl
          ])
          next.2,
    )
to_steps (byte ∷ bs) x y z wanted (behind_two a b c d len is) goes =
    let long = len_is y (omega arith) c in
    let least : wanted.least ≡ 0x80 = ap (λ w. w.least) is in
    let greatest : wanted.greatest ≡ 0xBF = ap (λ w. w.greatest) is in
    let next = at_later (λ w. Goes w bs) byte wanted (omega arith) goes in (
      later (inr b) d (omega arith),
      to_steps bs y z byte (still (wanted.count - 1))
          (elim long [
            | inl one ↦ absurd (omega arith)
            | inr more ↦ elim more [
              | inl two ↦ between (omega arith) (omega arith)
              | inr three ↦ let one : wanted.count - 1 ≡ 1 =
                  omega arith in behind_three three.0 c d (omega arith) (ap still one)
            ]
          ])
          next.2,
    )
to_steps (byte ∷ bs) x y z wanted (behind_three a b c d is) goes =
    let count : wanted.count ≡ 1 = ap (λ w. w.count) is in
    let least : wanted.least ≡ 0x80 = ap (λ w. w.least) is in
    let greatest : wanted.greatest ≡ 0xBF = ap (λ w. w.greatest) is in
    let next = at_later (λ w. Goes w bs) byte wanted (omega arith) goes in (
      later (inl a) d (omega arith),
      to_steps bs y z byte (still (wanted.count - 1)) (between (omega arith) (omega arith)) next.2,
    )

pub utf8_from_bytes : (text : List ℕ) → Goes nothing text → IsUtf8 text
utf8_from_bytes text goes =
    let closed : IsClosed 0 0 0 = omega arith in
    closed-IsUtf8 0 0 0 text closed (to_steps text 0 0 0 nothing (between refl closed) goes)

-- ---- from characters to bytes

module _ (P : Wanted → Type 0) (byte : ℕ) where
  first_low : byte < 0x80 → P nothing → MatchOption (behind_byte nothing byte) ⊥ P
  first_low low is = rw (lt-ltb byte 0x80 low) is

  first_lead : 0xC2 ≤ byte → byte ≤ 0xF4 → P (lead_of byte)
      → MatchOption (behind_byte nothing byte) ⊥ P
  first_lead low high is = go (nat_lt byte 0x80) (is_in_range 0xC2 0xF4 byte) refl refl
    where
      go : (a b : Bool) → nat_lt byte 0x80 ≡ a → is_in_range 0xC2 0xF4 byte ≡ b
          → MatchOption (cond a (Some nothing) (cond b (Some (lead_of byte)) None)) ⊥ P
      go true b below within = absurd (grind (arith, nat_tests))
      go false true below within = is
      go false false below within = absurd (grind (arith, nat_tests))

  later_in : (wanted : Wanted) → 0 < wanted.count → wanted.least ≤ byte → byte ≤ wanted.greatest
      → P (still (wanted.count - 1))
      → MatchOption (behind_byte wanted byte) ⊥ P
  later_in wanted some low high is =
      let not_none : (wanted.count == 0) ≡ false = grind (arith, nat_tests) in
      let within : is_in_range wanted.least wanted.greatest byte ≡ true =
      grind (arith, nat_tests) in
      rw (not_none, within) is

two : (c : ℕ) → 128 ≤ c → c < 2048 → encode c ≡ (192 + c / 64) ∷ next c ∷ []
unfolding encode
two c l h = rw (le-ltb c 128 l, lt-ltb c 2048 h)

three : (c : ℕ) → 2048 ≤ c → c < 65536 → encode c ≡ (224 + c / 4096) ∷ next (c / 64) ∷ next c ∷ []
unfolding encode
three c l h = rw (le-ltb c 128 (omega arith), le-ltb c 2048 l, lt-ltb c 65536 h)

four : (c : ℕ) → 65536 ≤ c
    → encode c ≡ (240 + c / 262144) ∷ next (c / 4096) ∷ next (c / 64) ∷ next c ∷ []
unfolding encode
four c l = rw (le-ltb c 128 (omega arith), le-ltb c 2048 (omega arith), le-ltb c 65536 l)

goes_still : (n m : ℕ) (bs : List ℕ) → n ≡ m → Goes (still m) bs → Goes (still n) bs
goes_still n m bs same goes = subst (λ k. Goes (still k) bs) (sym same) goes

one_char : (c : ℕ) (bs : List ℕ) → scalar c ≡ true → Goes nothing bs → Goes nothing (encode c ++ bs)
one_char c bs ok goes =
    let range = scalar_cases c ok in
    elim (cases_lt c 128) [
      | inl a ↦ rw (encode_ascii c a) (first_low (λ w. Goes w bs) c a goes)
      | inr a ↦ elim (cases_lt c 2048) [
        | inl b ↦
            let x = 192 + c / 64 in
            let len = len_is x (omega arith) (omega arith) in
            let low = least_is x in
            let high = most_is x in
            rw (two c a b)
            (first_lead (λ w. Goes w (next c ∷ bs)) x (omega arith) (omega arith)
            (later_in (λ w. Goes w bs) (next c) (lead_of x) (omega arith) (omega arith)
            (omega arith) (goes_still (continuation_len x - 1) 0 bs (omega arith) goes)))
        | inr b ↦ elim (cases_lt c 65536) [
          | inl d ↦
              let x = 224 + c / 4096 in
              let len = len_is x (omega arith) (omega arith) in
              let low = least_is x in
              let high = most_is x in
              rw (three c b d)
              (first_lead (λ w. Goes w (next (c / 64) ∷ next c ∷ bs)) x (omega arith) (omega arith)
              (later_in (λ w. Goes w (next c ∷ bs)) (next (c / 64)) (lead_of x) (omega arith)
              (omega arith) (omega arith)
              (goes_still (continuation_len x - 1) 1 (next c ∷ bs) (omega arith)
              (later_in (λ w. Goes w bs) (next c) (still 1) (omega arith) (omega arith)
              (omega arith) goes))))
          | inr d ↦
              let x = 240 + c / 262144 in
              let len = len_is x (omega arith) (omega arith) in
              let low = least_is x in
              let high = most_is x in
              rw (four c d)
              (first_lead (λ w. Goes w (next (c / 4096) ∷ next (c / 64) ∷ next c ∷ bs)) x
              (omega arith) (omega arith)
              (later_in (λ w. Goes w (next (c / 64) ∷ next c ∷ bs)) (next (c / 4096)) (lead_of x)
              (omega arith) (omega arith) (omega arith)
              (goes_still (continuation_len x - 1) 2 (next (c / 64) ∷ next c ∷ bs) (omega arith)
              (later_in (λ w. Goes w (next c ∷ bs)) (next (c / 64)) (still 2) (omega arith)
              (omega arith) (omega arith)
              (later_in (λ w. Goes w bs) (next c) (still 1) (omega arith) (omega arith)
              (omega arith) goes)))))
        ]
      ]
    ]

all_chars : (cs : List ℕ) → scalars cs ≡ true → Goes nothing (encodes cs)
all_chars [] ok = refl
all_chars (c ∷ cs) ok = let p =
    and_parts (scalar c) (scalars cs) ok in one_char c (encodes cs) p.0 (all_chars cs p.1)

pub bytes_from_utf8 : (text : List ℕ) → IsUtf8 text → Goes nothing text
bytes_from_utf8 text is = subst (Goes nothing) is.1.1 (all_chars is.0 is.1.0)

-- ---- the place

-- what is wanted is at least one byte that can come, or nothing
pub record CanEnd (wanted : Wanted) : Type 0 where
  pub high : 128 ≤ wanted.least
  pub some : wanted.least ≤ wanted.greatest

abbrev pub AreHigh : List ℕ → Type 0
AreHigh = AllByRecursion (λ byte. 128 ≤ byte)

-- the text goes on up to this place, by bytes above ASCII, and not beyond
pub record Cut (wanted : Wanted) (text : List ℕ) (at : ℕ) : Type 0 where
  pub within : at ≤ length text
  pub more : List ℕ
  pub are : AreHigh more
  pub goes : Goes wanted (take at text ++ more)
  pub wrong : at < length text → (other : List ℕ) → Goes wanted (take (suc at) text ++ other) → ⊥

low_ending : (n : ℕ) → (more : List ℕ) × AreHigh more × Goes (still n) more
low_ending zero = ([], tt, refl)
low_ending (suc n) =
    let rest = low_ending n in
    let less : suc n - 1 ≡ n = omega arith in (
      0x80 ∷ rest.0,
      (omega arith, rest.1),
      later_in (λ w. Goes w rest.0) 0x80 (still (suc n)) (omega arith) (omega arith) (omega arith)
          (goes_still (suc n - 1) n rest.0 less rest.2),
    )

ending : (wanted : Wanted) → CanEnd wanted → (more : List ℕ) × AreHigh more × Goes wanted more
ending wanted can = go wanted.count refl
  where
    go : (n : ℕ) → wanted.count ≡ n → (more : List ℕ) × AreHigh more × Goes wanted more
    go zero is = ([], tt, is)
    go (suc n) is =
        let rest = low_ending n in
        let less : wanted.count - 1 ≡ n = omega arith in (
          wanted.least ∷ rest.0,
          (can.high, rest.1),
          later_in (λ w. Goes w rest.0) wanted.least wanted (omega arith) (omega arith)
              (omega (arith, can.some)) (goes_still (wanted.count - 1) n rest.0 less rest.2),
        )

ends_behind : (wanted : Wanted) (byte : ℕ) → CanEnd wanted
    → MatchOption (behind_byte wanted byte) (Unit {0}) CanEnd
ends_behind wanted byte can =
    go (wanted.count == 0) (nat_lt byte 0x80) (is_in_range 0xC2 0xF4 byte)
    (is_in_range wanted.least wanted.greatest byte)
  where
    lead : CanEnd (lead_of byte)
    lead = let low = least_is byte in let high =
        most_is byte in record { high = omega arith; some = omega arith }

    go : (a b d e : Bool)
        → MatchOption
        (cond a (cond b (Some nothing) (cond d (Some (lead_of byte)) None))
        (cond e (Some (still (wanted.count - 1))) None)) (Unit {0}) CanEnd
    go true true d e = record { high = omega arith; some = omega arith }
    go true false true e = lead
    go true false false e = tt
    go false b d true = record { high = omega arith; some = omega arith }
    go false b d false = tt

pub cut_is : (text : List ℕ) (wanted : Wanted) → CanEnd wanted
    → Cut wanted text (readable wanted text)
cut_is [] wanted can =
    let end = ending wanted can in
    record {
      within = omega arith;
      more = end.0;
      are = end.1;
      goes = end.2;
      wrong = λ inside. absurd (omega arith);
    }
cut_is (byte ∷ text) wanted can =
    go (behind_byte wanted byte) refl (ends_behind wanted byte can) (cut_is text)
  where
    go : (o : Option Wanted) → behind_byte wanted byte ≡ o → MatchOption o (Unit {0}) CanEnd
        → ((next : Wanted) → CanEnd next → Cut next text (readable next text))
        → Cut wanted (byte ∷ text) (option_map_or (λ next. suc (readable next text)) o 0)
    go None is ends rest =
        let end = ending wanted can in
        record {
          within = omega arith;
          more = end.0;
          are = end.1;
          goes = end.2;
          wrong = λ inside other goes. rw is at goes;
        }
    go (Some next) is ends rest =
        let cut = rest next ends in
        record {
          within = omega (arith, cut.within);
          more = cut.more;
          are = cut.are;
          goes = rw is cut.goes;
          wrong = λ inside other goes. cut.wrong (omega arith) other (rw is at goes);
        }
