-- The text of a span says its length.
use Rattle.std.specs.Prelude.{◌≡◌, ℕ, zero, suc, ◌+◌, ◌-◌, ◌*◌, ◌^◌, ◌<◌, ◌==◌, ◌&&◌, ◌||◌, nat_lt, pos, ◌-ℤ◌, int_lt, unsigned_abs, Bool, true, false, List, [], ◌∷◌, ◌++◌, length, codes, if◌then◌else◌}
use Rattle.std.specs.Char.{is_ascii_digit, digit_value}
use Rattle.std.specs.Fmt.{decimal}
use Rattle.std.specs.Str.Parse.{digits_value_after}
use Rattle.std.proofs.Common.{refl, ap, sym, ◌∙◌, append_assoc, arith}
use Rattle.std.proofs.Math.Nat.{zero-mul}
use Rattle.std.proofs.lemmas.Bool.{eqb-true, and_parts}
use Rattle.std.proofs.lemmas.Bool.Decides.{nat_tests}
use Rattle.std.proofs.lemmas.Int.{ints}
use Rattle.vm_decimal.specs.Spelled.{IsDigits}
use Rattle.vm_decimal.proofs.PrintedTexts.{decimal_of}
use Rattle.mql_expr.specs.Spans.{count_text, ms_text, size_text, span_text, is_negative}
use Rattle.mql_laws.proofs.SpanTexts.{IsUnit, days, hours, minutes, seconds, milliseconds, ms_counted}
use Rattle.mql_parse.specs.Values.{Length, some_ms, begins_with, unit_at, times, plus, length_behind, length_of, is_short, ahead, back}

abbrev len : ℕ → ℕ → Length
len ms steps = record { ms = ms; steps = steps }

same_len : (a b c d : ℕ) → a ≡ b → c ≡ d → len a c ≡ len b d
same_len a b c d p q = ap (λ x. len x c) p ∙ ap (λ x. len b x) q

-- ---- digits

no_digit_less : (b : ℕ) → is_ascii_digit b ≡ true → b - 48 ≡ digit_value b
no_digit_less b is = grind (arith, nat_tests)

behind_digits : (n : ℕ) (ds rest : List ℕ) → IsDigits ds
    → length_behind n (ds ++ rest) ≡ length_behind (digits_value_after 10 n ds) rest
behind_digits n [] rest all = refl
behind_digits n (b ∷ ds) rest all =
    ap (λ (t : Bool). if t then length_behind (n * 10 + (b - 48)) (ds ++ rest)
    else plus (times n (unit_at b (ds ++ rest))) (length_behind 0 (ds ++ rest))) all.0
    ∙ ap (λ m. length_behind (n * 10 + m) (ds ++ rest)) (no_digit_less b all.0)
    ∙ behind_digits (n * 10 + digit_value b) ds rest all.1

behind_number : (n : ℕ) (rest : List ℕ) → n < 2 ^ 64
    → length_behind 0 (decimal n ++ rest) ≡ length_behind n rest
behind_number n rest few =
    let d = decimal_of n (omega arith) in
    behind_digits 0 (decimal n) rest d.digits ∙ ap (λ m. length_behind m rest) d.value

-- ---- units

none_of : (n : ℕ) → n * 0 ≡ 0
none_of n = omega arith

unit_says : (n size : ℕ) (unit rest : List ℕ) → IsUnit unit size → begins_with 115 rest ≡ false
    → length_behind n (unit ++ rest) ≡ plus (len (n * size) 0) (length_behind 0 rest)
unit_says n size unit rest days apart =
    ap (λ k. len (n * 86400000 + (length_behind 0 rest).ms) (k + (length_behind 0 rest).steps))
    (none_of n)
unit_says n size unit rest hours apart =
    ap (λ k. len (n * 3600000 + (length_behind 0 rest).ms) (k + (length_behind 0 rest).steps))
    (none_of n)
unit_says n size unit rest minutes apart =
    ap (λ (b : Bool). plus (times n (some_ms (if b then 1 else 60000))) (length_behind 0 rest))
    apart
    ∙ ap (λ k. len (n * 60000 + (length_behind 0 rest).ms) (k + (length_behind 0 rest).steps))
    (none_of n)
unit_says n size unit rest seconds apart =
    ap (λ k. len (n * 1000 + (length_behind 0 rest).ms) (k + (length_behind 0 rest).steps))
    (none_of n)
unit_says n size unit rest milliseconds apart =
    same_len (n * 1 + (0 * 1000 + (length_behind 0 rest).ms)) (n * 1 + (length_behind 0 rest).ms)
    (n * 0 + (0 * 0 + (length_behind 0 rest).steps)) (0 + (length_behind 0 rest).steps)
    (omega arith) (omega arith)

-- no `s` stands before digits
digits_no_mark : (ds rest : List ℕ) → IsDigits ds → 0 < length ds
    → begins_with 115 (ds ++ rest) ≡ false
digits_no_mark [] rest all some = absurd (omega arith)
digits_no_mark (b ∷ ds) rest all some = let digit : is_ascii_digit b ≡ true =
    all.0 in grind (arith, nat_tests)

-- ---- steps

steps_say : (steps : ℕ) → steps < 2 ^ 64
    → length_behind 0 (count_text steps (codes "i")) ≡ len 0 steps
steps_say steps few = go (steps == 0) refl
  where
    go : (b : Bool) → (steps == 0) ≡ b
        → length_behind 0 (if b then [] else decimal steps ++ codes "i") ≡ len 0 steps
    go true is = ap (len 0) (sym (eqb-true steps 0 is))
    go false is = behind_number steps (codes "i") few
        ∙ same_len (steps * 0 + 0) 0 (steps * 1 + 0) steps (omega arith) (omega arith)

steps_no_mark : (steps : ℕ) → steps < 2 ^ 64
    → begins_with 115 (count_text steps (codes "i")) ≡ false
steps_no_mark steps few = go (steps == 0)
  where
    go : (b : Bool) → begins_with 115 (if b then [] else decimal steps ++ codes "i") ≡ false
    go true = refl
    go false = let d =
        decimal_of steps (omega arith) in digits_no_mark (decimal steps) (codes "i") d.digits d.some

-- ---- milliseconds

few_units : (count size ms : ℕ) (unit : List ℕ) → IsUnit unit size → count * size ≡ ms → ms < 2 ^ 64
    → count < 2 ^ 64
few_units count size ms unit days whole few = omega arith
few_units count size ms unit hours whole few = omega arith
few_units count size ms unit minutes whole few = omega arith
few_units count size ms unit seconds whole few = omega arith
few_units count size ms unit milliseconds whole few = omega arith

counted : (count size : ℕ) (unit rest : List ℕ) → IsUnit unit size → count < 2 ^ 64
    → begins_with 115 rest ≡ false
    → length_behind 0 (count_text count unit ++ rest)
    ≡ plus (len (count * size) 0) (length_behind 0 rest)
counted count size unit rest is_unit few apart = go (count == 0) refl
  where
    go : (b : Bool) → (count == 0) ≡ b
        → length_behind 0 ((if b then [] else decimal count ++ unit) ++ rest)
        ≡ plus (len (count * size) 0) (length_behind 0 rest)
    go true is =
        let none : count ≡ 0 = eqb-true count 0 is in
        let nothing : count * size ≡ 0 = ap (λ n. n * size) none ∙ zero-mul size in
        same_len (length_behind 0 rest).ms (count * size + (length_behind 0 rest).ms)
        (length_behind 0 rest).steps (0 + (length_behind 0 rest).steps)
        (omega (arith, nothing)) (omega arith)
    go false is =
        ap (length_behind 0) (append_assoc (decimal count) unit rest)
        ∙ behind_number count (unit ++ rest) few ∙ unit_says count size unit rest is_unit apart

ms_say : (ms : ℕ) (rest : List ℕ) → ms < 2 ^ 64 → begins_with 115 rest ≡ false
    → length_behind 0 (ms_text ms ++ rest) ≡ plus (len ms 0) (length_behind 0 rest)
ms_say ms rest few apart =
    let c = ms_counted ms in
    ap (λ t. length_behind 0 (t ++ rest)) c.text
    ∙ counted c.count c.size c.unit rest c.is (few_units c.count c.size ms c.unit c.is c.whole few)
    apart
    ∙ ap (λ n. plus (len n 0) (length_behind 0 rest)) c.whole

-- ---- both

pub size_says : (ms steps : ℕ) → ms < 2 ^ 64 → steps < 2 ^ 64
    → length_of (size_text ms steps) ≡ len ms steps
unfolding length_of
size_says ms steps few less = go (ms == 0) (steps == 0) refl refl
  where
    more : length_behind 0 (ms_text ms ++ count_text steps (codes "i")) ≡ len ms steps
    more =
        ms_say ms (count_text steps (codes "i")) few (steps_no_mark steps less)
        ∙ ap (plus (len ms 0)) (steps_say steps less)
        ∙ same_len (ms + 0) ms (0 + steps) steps (omega arith) (omega arith)

    go : (x y : Bool) → (ms == 0) ≡ x → (steps == 0) ≡ y
        → length_behind 0
        (if x && y then codes "0s" else ms_text ms ++ count_text steps (codes "i")) ≡ len ms steps
    go true true p q = same_len 0 ms 0 steps (sym (eqb-true ms 0 p)) (sym (eqb-true steps 0 q))
    go true false p q = more
    go false y p q = more

-- ---- with their signs

not_below : (n : ℕ) → int_lt (pos n) (pos 0) ≡ false
not_below n = grind (arith, nat_tests)

below : (n : ℕ) → int_lt (pos 0 -ℤ pos (suc n)) (pos 0) ≡ true
below n = grind (arith, nat_tests)

pub size_back : (n : ℕ) → unsigned_abs (pos 0 -ℤ pos n) ≡ n
size_back zero = refl
size_back (suc n) =
    first_of (grind (arith, nat_tests), first_of (omega (arith, ints), grind (arith, ints)))

pub short_ms : (l : Length) → is_short l ≡ true → l.ms < 2 ^ 64
short_ms l short = let part =
    and_parts (nat_lt l.ms (2 ^ 48)) (nat_lt l.steps (2 ^ 48)) short in let is :
    nat_lt l.ms (2 ^ 48) ≡ true = part.0 in grind (arith, nat_tests)

pub short_steps : (l : Length) → is_short l ≡ true → l.steps < 2 ^ 64
short_steps l short = let part =
    and_parts (nat_lt l.ms (2 ^ 48)) (nat_lt l.steps (2 ^ 48)) short in let is :
    nat_lt l.steps (2 ^ 48) ≡ true = part.1 in grind (arith, nat_tests)

pub ahead_sign : (l : Length) → is_negative (ahead l) ≡ false
ahead_sign l = ap (λ b. b || int_lt (pos l.steps) (pos 0)) (not_below l.ms) ∙ not_below l.steps

pub ahead_says : (l : Length) → is_short l ≡ true → length_of (span_text (ahead l)) ≡ l
ahead_says l short = size_says l.ms l.steps (short_ms l short) (short_steps l short)

-- what is written of a span that goes back
pub back_says : (l : Length) → is_short l ≡ true → length_of (span_text (back l)) ≡ l
back_says l short =
    ap (λ n. length_of (size_text n (unsigned_abs (pos 0 -ℤ pos l.steps)))) (size_back l.ms)
    ∙ ap (λ n. length_of (size_text l.ms n)) (size_back l.steps)
    ∙ size_says l.ms l.steps (short_ms l short) (short_steps l short)

-- a span that goes back and has no sign is nothing
pub back_sign : (l : Length) → is_negative (back l) ≡ false → l ≡ len 0 0
back_sign l apart = go l.ms l.steps apart
  where
    go : (ms steps : ℕ) → is_negative (back (len ms steps)) ≡ false → len ms steps ≡ len 0 0
    go zero zero is = refl
    go zero (suc n) is = let holds : is_negative (back (len 0 (suc n))) ≡ true =
        ap (λ b. int_lt (pos 0 -ℤ pos 0) (pos 0) || b) (below n) in absurd (cc (is, holds))
    go (suc m) steps is = let holds : is_negative (back (len (suc m) steps)) ≡ true =
        ap (λ b. b || int_lt (pos 0 -ℤ pos steps) (pos 0)) (below m) in absurd (cc (is, holds))
