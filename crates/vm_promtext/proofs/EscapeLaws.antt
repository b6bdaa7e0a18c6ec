-- Decoding piece by piece.
use Rattle.std.proofs.Common.{◌≡◌, ℕ, Bool, true, false, cond, List, [], ◌∷◌, ◌++◌, refl, ap, sym, arith, suc, ◌+◌, ◌<◌, length, take, drop, append_assoc}
use Rattle.std.specs.Prelude.{◌==◌, not}
use Rattle.std.specs.List.{position_or_len, before_first, after_first}
use Rattle.std.proofs.lemmas.Bool.Decides.{nat_tests}
use Rattle.vm_promtext.specs.Quoted.{decoded}

-- a backslash stands for itself before all but three bytes
plain_byte : (byte : ℕ) (more : List ℕ) → (byte ≡ 110 → ⊥) → (byte ≡ 34 → ⊥) → (byte ≡ 92 → ⊥)
    → decoded true (byte ∷ more) ≡ 92 ∷ decoded false (byte ∷ more)
plain_byte byte more not_n not_quote not_slash =
    let n : (byte == 110) ≡ false = grind (arith, nat_tests) in
    let quote : (byte == 34) ≡ false = grind (arith, nat_tests) in
    let slash : (byte == 92) ≡ false = grind (arith, nat_tests) in
    rw (n, quote, slash) refl

pub plain : (text : List ℕ) → ((rest : List ℕ) → text ≡ 110 ∷ rest → ⊥)
    → ((rest : List ℕ) → text ≡ 34 ∷ rest → ⊥)
    → ((rest : List ℕ) → text ≡ 92 ∷ rest → ⊥) → decoded true text ≡ 92 ∷ decoded false text
plain [] not_n not_quote not_slash = refl
plain (byte ∷ more) not_n not_quote not_slash =
    plain_byte byte more (λ is. not_n more (ap (λ b. b ∷ more) is))
    (λ is. not_quote more (ap (λ b. b ∷ more) is))
    (λ is. not_slash more (ap (λ b. b ∷ more) is))

abbrev is_slash : ℕ → Bool
is_slash byte = byte == 92

-- without a backslash a text stands for itself
pub no_slash : (text : List ℕ) → position_or_len is_slash text ≡ length text
    → decoded false text ≡ text
no_slash [] none = refl
no_slash (byte ∷ more) none = go (byte == 92) refl none (no_slash more)
  where
    go : (b : Bool) → (byte == 92) ≡ b
        → cond (not b) (1 + position_or_len is_slash more) 0 ≡ suc (length more)
        → (position_or_len is_slash more ≡ length more → decoded false more ≡ more)
        → decoded false (byte ∷ more) ≡ byte ∷ more
    go true is none rest = absurd (omega arith)
    go false is none rest = rw (is, rest (omega arith)) refl

-- what stands before a backslash, and what is escaped
pub first_slash : (text : List ℕ) → position_or_len is_slash text < length text
    → decoded false text ≡ before_first is_slash text ++ decoded true (after_first is_slash text)
first_slash [] some = absurd (omega arith)
first_slash (byte ∷ more) some = go (byte == 92) refl some (first_slash more)
  where
    go : (b : Bool) → (byte == 92) ≡ b
        → cond (not b) (1 + position_or_len is_slash more) 0 < suc (length more)
        → (position_or_len is_slash more < length more
        → decoded false more ≡ before_first is_slash more
        ++ decoded true (after_first is_slash more))
        → decoded false (byte ∷ more)
        ≡ take (cond (not b) (1 + position_or_len is_slash more) 0) (byte ∷ more)
        ++ decoded true
        (drop (cond (not b) (1 + position_or_len is_slash more) 0 + 1) (byte ∷ more))
    go true is some rest = rw is refl
    go false is some rest =
        let next : 1 + position_or_len is_slash more ≡ suc (position_or_len is_slash more) =
        omega arith in
        let behind : suc (position_or_len is_slash more) + 1
        ≡ suc (position_or_len is_slash more + 1) = omega arith in
        rw (is, next, behind) (ap (λ t. byte ∷ t) (rest (omega arith)))

pub plain_pushed : (front text new : List ℕ) → new ≡ front ++ 92 ∷ []
    → decoded true text ≡ 92 ∷ decoded false text
    → front ++ decoded true text ≡ new ++ decoded false text
plain_pushed front text new is plain =
    rw (is, plain) (sym (append_assoc front (92 ∷ []) (decoded false text)))
