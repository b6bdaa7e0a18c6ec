-- Digits read one after the other.
use Rattle.std.proofs.Common.{◌≡◌, ℕ, ◌+◌, ◌*◌, ◌^◌, ◌<◌, ◌≤◌, Bool, true, false, List, [], ◌∷◌, length, drop, get_or, suc, Option, Some, None, arith, refl, sym, ◌∙◌, ap}
use Rattle.std.specs.Prelude.{◌&&◌, nat_lt, nat_le, if◌then◌else◌}
use Rattle.std.specs.List.{list_all}
use Rattle.std.specs.Char.{is_ascii_digit, digit_value}
use Rattle.std.specs.Str.Parse.{digits_value, digits_value_after}
use Rattle.std.proofs.Common.{drop-cons, drop_of_length-le}
use Rattle.vm_script.specs.inner.Digit.{with_digit}
use Rattle.vm_script.specs.Number.{number_of}

-- the number that digits write which follow those of a number
abbrev pub number_after : ℕ → List ℕ → Option ℕ
number_after read digits =
    if list_all is_ascii_digit digits && nat_lt (digits_value_after 10 read digits) (2 ^ 64)
    then Some (digits_value_after 10 read digits) else None

grows : (read : ℕ) (digits : List ℕ) → read ≤ digits_value_after 10 read digits
grows read [] = omega arith
grows read (digit ∷ more) = omega (arith, grows (read * 10 + digit_value digit) more)

large : (b : Bool) (n : ℕ) → 2 ^ 64 ≤ n → (if b && nat_lt n (2 ^ 64) then Some n else None) ≡ None
large false n h = refl
large true n h = grind arith

number_after-large : (read : ℕ) (digits : List ℕ) → 2 ^ 64 ≤ read → number_after read digits ≡ None
number_after-large read digits h =
    large (list_all is_ascii_digit digits) (digits_value_after 10 read digits)
    (omega (arith, grows read digits))

-- where no digit can follow, nothing is read
number_after-stuck : (read digit : ℕ) (more : List ℕ) → with_digit read digit ≡ None
    → number_after read (digit ∷ more) ≡ None
number_after-stuck read digit more stuck =
    elim (is_ascii_digit digit) as (λ b. is_ascii_digit digit ≡ b
    → number_after read (digit ∷ more) ≡ None) [
      | true ↦ λ is.
          let far : 2 ^ 64 ≤ read * 10 + digit_value digit = grind arith in
          rw is (number_after-large (read * 10 + digit_value digit) more far)
      | false ↦ λ is. rw is refl
    ] refl

-- the tests of the length that passed may be left out
checked : (a b c d : Bool) (n : ℕ) → a ≡ true → b ≡ true
    → (if a && b && c && d then Some n else None) ≡ (if c && d then Some n else None)
checked a b c d n p q = rw (p, q) refl

-- of as many digits as are allowed, the number is what they write
pub number_of-after : (digits : List ℕ) → 1 ≤ length digits → length digits ≤ 20
    → number_of digits ≡ number_after 0 digits
number_of-after digits some few =
    checked (nat_le 1 (length digits)) (nat_le (length digits) 20) (list_all is_ascii_digit digits)
    (nat_lt (digits_value 10 digits) (2 ^ 64)) (digits_value 10 digits) (grind arith)
    (grind arith)

pub read_all : (read : ℕ) → read < 2 ^ 64 → number_after read [] ≡ Some read
read_all read small = grind arith

pub read_stuck : (read at : ℕ) (digits : List ℕ) → at < length digits
    → with_digit read (get_or digits at 0) ≡ None
    → number_after read (drop at digits) ≡ None
read_stuck read at digits within stuck =
    rw (drop-cons digits at 0)
    (number_after-stuck read (get_or digits at 0) (drop (suc at) digits) stuck)

-- what is read of all digits, or of those up to one that can't follow
pub number_of-read : (read at : ℕ) (digits : List ℕ) → 1 ≤ length digits → length digits ≤ 20
    → number_after 0 digits ≡ number_after read (drop at digits) → length digits ≤ at
    → read < 2 ^ 64
    → Some read ≡ number_of digits
number_of-read read at digits some few so_far whole small =
    sym (number_of-after digits some few ∙ so_far
    ∙ ap (number_after read) (drop_of_length-le digits whole) ∙ read_all read small)

pub number_of-stuck : (read at : ℕ) (digits : List ℕ) → 1 ≤ length digits → length digits ≤ 20
    → number_after 0 digits ≡ number_after read (drop at digits) → at < length digits
    → with_digit read (get_or digits at 0) ≡ None → None ≡ number_of digits
number_of-stuck read at digits some few so_far within stuck =
    sym (number_of-after digits some few ∙ so_far ∙ read_stuck read at digits within stuck)
